-- How the bytes of a block become those of a sealed one, and lists of such bytes.
use Rattle.std.proofs.Common.{◌≡◌, ℕ, ◌+◌, ◌-◌, ◌≤◌, List, [], ◌∷◌, ◌++◌, length, take, drop, map, replicate, refl, sym, ◌∙◌, ap, append_assoc, arith}
use Rattle.std.proofs.lemmas.List.{drop-replicate, drop_at, length-append, length-replicate, length-take-le, map-append}
use Rattle.sha2.specs.Sha256.{sha256}
use Rattle.sha2.proofs.Facts256.{length-sha256}
use Rattle.base.specs.disk.Disk.{put}
use Rattle.base.specs.formats.Fields.{part}
use Rattle.base.proofs.formats.FieldsRead.{put-put_behind}
use Rattle.checked_blocks.proofs.Placed.{put-between}
use Rattle.base.specs.formats.Blocks.{block_head_bytes, sealed_block}
use Rattle.checked_blocks.specs.Prepared.{headed_bytes, with_digest}
use Rattle.checked_blocks.specs.Sealing.{padded, zeros}
use Rattle.checked_blocks.proofs.SealedBlocks.{clear-parts, length-head_bytes, unsealed-parts}

-- a head and zeros, put over the first 64 bytes
pub headed-is : (head bytes first second : List ℕ) → length head ≡ 32 → 64 ≤ length bytes → first ≡ put 0 head bytes → second ≡ put 32 (replicate 32 0) first
    → second ≡ head ++ replicate 32 0 ++ drop 64 bytes
headed-is head bytes first second lh fits e1 e2 =
    let z : List ℕ = replicate 32 0 in
    let lz : length z ≡ 32 = length-replicate {A = ℕ} 32 0 in
    let at : 32 ≡ 0 + length head = omega (arith, lh) in
    let end : 0 + length (head ++ z) ≡ 64 = omega (arith, length-append head z, lh, lz) in
    e2 ∙ ap (λ (l : List ℕ). put 32 z l) e1 ∙ ap (λ (k : ℕ). put k z (put 0 head bytes)) at
    ∙ put-put_behind 0 head z bytes (omega (arith, lh, lz, fits))
    ∙ ap (λ (k : ℕ). (head ++ z) ++ drop k bytes) end

-- a digest, put over the zeros
pub digest-is : (bytes digest new : List ℕ) → 32 ≤ length bytes → part bytes 32 32 ≡ replicate 32 0 → digest ≡ sha256 bytes → new ≡ put 32 digest bytes
    → new ≡ take 32 bytes ++ sha256 bytes ++ drop 64 bytes
digest-is bytes digest new fits clear is e =
    let long : length digest ≡ 32 = ap (λ (l : List ℕ). length l) is ∙ length-sha256 bytes in
    e ∙ ap (λ (l : List ℕ). put 32 digest l) (clear-parts bytes clear)
    ∙ put-between 32 digest (take 32 bytes) (replicate 32 0) (drop 64 bytes) (length-take-le 32 bytes fits) (length-replicate {A = ℕ} 32 0 ∙ sym long)
    ∙ sym (append_assoc (take 32 bytes) digest (drop 64 bytes))
    ∙ ap (λ (l : List ℕ). take 32 bytes ++ l ++ drop 64 bytes) is

-- a payload, put into zeros
pub payload-is : (payload bytes new : List ℕ) → bytes ≡ zeros 4096 → length payload ≤ 4032 → new ≡ put 64 payload bytes → drop 64 new ≡ padded payload
unfolding zeros
payload-is payload bytes new are fits e =
    let z : List ℕ = replicate 4096 0 in
    let front : length (take 64 z) ≡ 64 = length-take-le 64 z (omega (arith, length-replicate {A = ℕ} 4096 0)) in
    let left : 4096 - (64 + length payload) ≡ 4032 - length payload = omega (arith, fits) in
    ap (λ (l : List ℕ). drop 64 l) (e ∙ ap (λ (l : List ℕ). put 64 payload l) are)
    ∙ drop_at (take 64 z) (payload ++ drop (64 + length payload) z) 64 front
    ∙ ap (λ (l : List ℕ). payload ++ l) (drop-replicate (64 + length payload) 4096 0 ∙ ap (λ (k : ℕ). replicate k 0) left)

-- a function of what another one gives, element by element
pub map-then : {A B C : Type 0} (f : A → B) (g : B → C) (xs : List A) → map g (map f xs) ≡ map (λ x. g (f x)) xs
map-then f g [] = refl
map-then f g (x ∷ xs) = ap (λ l. g (f x) ∷ l) (map-then f g xs)

-- lists of one image have one image further on
pub map-same : {A B C D : Type 0} (f : A → C) (g : B → C) (h : C → D) (xs : List A) (ys : List B) → map f xs ≡ map g ys → map (λ x. h (f x)) xs ≡ map (λ y. h (g y)) ys
map-same f g h xs ys e = sym (map-then f h xs) ∙ ap (λ l. map h l) e ∙ map-then g h ys

-- one element moves from those that are left to those that are done, and the images of all stay
pub map-moved : {A B C : Type 0} (f : A → C) (g : B → C) (done new : List A) (x : A) (y : B) (left rest : List B) (all : List C)
    → new ≡ done ++ x ∷ [] → left ≡ y ∷ rest → f x ≡ g y → map f done ++ map g left ≡ all → map f new ++ map g rest ≡ all
map-moved f g done new x y left rest all e1 e2 same before =
    ap (λ l. map f l ++ map g rest) e1
    ∙ ap (λ l. l ++ map g rest) (map-append f done (x ∷ []))
    ∙ append_assoc (map f done) (f x ∷ []) (map g rest)
    ∙ ap (λ z. map f done ++ z ∷ map g rest) same
    ∙ ap (λ l. map f done ++ map g l) (sym e2)
    ∙ before

-- a digest in the place of the zeros behind a head makes the sealed block
pub headed-sealed : (kind guid group number : ℕ) (bytes : List ℕ) → with_digest (headed_bytes kind guid group number bytes) ≡ sealed_block kind guid group number (drop 64 bytes)
headed-sealed kind guid group number bytes =
    let head : List ℕ = block_head_bytes kind guid group number in
    (unsealed-parts (headed_bytes kind guid group number bytes) head (drop 64 bytes) (length-head_bytes kind guid group number) (append_assoc head (replicate 32 0) (drop 64 bytes))).1
