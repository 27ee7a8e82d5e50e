-- The digest of a message of 4,096 bytes is what its 64 parts and the padding leave.
use Rattle.std.proofs.Common.{◌≡◌, ℕ, zero, suc, ◌+◌, ◌*◌, ◌/◌, List, ◌++◌, length, take, drop}
use Rattle.std.proofs.Common.{refl, sym, ap, ◌∙◌, arith, length-append}
use Rattle.std.proofs.lemmas.List.{drop-append-le, drop_all}
use Rattle.sha2.specs.Sha256.{compress, digest_bytes, hash_after, initial_hash_256, padded_message, padding, sha256}
use Rattle.sha2.proofs.Absorbing256.{hash_after-append, hash_after_next}
use Rattle.hash_lanes.specs.Lanes.{one_of, one_of_eight}

-- the same of each message
one_of-each : (f : List ℕ → List ℕ) (i : ℕ) (a b c d : List ℕ) → one_of i (f a) (f b) (f c) (f d) ≡ f (one_of i a b c d)
one_of-each f zero a b c d = refl
one_of-each f (suc zero) a b c d = refl
one_of-each f (suc (suc zero)) a b c d = refl
one_of-each f (suc (suc (suc i))) a b c d = refl

one_of_eight-each : (f : List ℕ → List ℕ) (i : ℕ) (a b c d e1 e2 e3 e4 : List ℕ)
    → one_of_eight i (f a) (f b) (f c) (f d) (f e1) (f e2) (f e3) (f e4) ≡ f (one_of_eight i a b c d e1 e2 e3 e4)
one_of_eight-each f zero a b c d e1 e2 e3 e4 = refl
one_of_eight-each f (suc zero) a b c d e1 e2 e3 e4 = refl
one_of_eight-each f (suc (suc zero)) a b c d e1 e2 e3 e4 = refl
one_of_eight-each f (suc (suc (suc zero))) a b c d e1 e2 e3 e4 = refl
one_of_eight-each f (suc (suc (suc (suc i)))) a b c d e1 e2 e3 e4 = one_of-each f i e1 e2 e3 e4

-- n bytes from `at` on
abbrev pub part : ℕ → ℕ → List ℕ → List ℕ
part at n m = take n (drop at m)

-- the hash value of message i after one more part
pub part_more : (i k at n : ℕ) (a b c d before after : List ℕ)
    → before ≡ hash_after initial_hash_256 (one_of i a b c d) k → at ≡ k * 64 → n ≡ 64
    → after ≡ compress before (one_of i (part at n a) (part at n b) (part at n c) (part at n d))
    → after ≡ hash_after initial_hash_256 (one_of i a b c d) (k + 1)
part_more i k at n a b c d before after held place whole e =
    e ∙ ap (compress before) (one_of-each (part at n) i a b c d)
    ∙ rw (held, place, whole) (sym (hash_after_next initial_hash_256 (one_of i a b c d) k))

pub part_more_eight : (i k at n : ℕ) (a b c d e1 e2 e3 e4 before after : List ℕ)
    → before ≡ hash_after initial_hash_256 (one_of_eight i a b c d e1 e2 e3 e4) k → at ≡ k * 64 → n ≡ 64
    → after ≡ compress before (one_of_eight i (part at n a) (part at n b) (part at n c) (part at n d) (part at n e1) (part at n e2) (part at n e3) (part at n e4))
    → after ≡ hash_after initial_hash_256 (one_of_eight i a b c d e1 e2 e3 e4) (k + 1)
part_more_eight i k at n a b c d e1 e2 e3 e4 before after held place whole e =
    e ∙ ap (compress before) (one_of_eight-each (part at n) i a b c d e1 e2 e3 e4)
    ∙ rw (held, place, whole) (sym (hash_after_next initial_hash_256 (one_of_eight i a b c d e1 e2 e3 e4) k))

-- the part after a message of 4,096 bytes
abbrev pub last_part : List ℕ
last_part = padding 4096

-- the digest, once the padding is taken in
pub digest_from : (m hash : List ℕ) → length m ≡ 4096 → hash ≡ compress (hash_after initial_hash_256 m 64) last_part
    → digest_bytes hash 8 ≡ sha256 m
unfolding sha256
digest_from m hash long e =
    let whole : padded_message m ≡ m ++ last_part = rw long refl in
    let count : length (padded_message m) / 64 ≡ 64 + 1 = rw (whole, length-append m last_part, long) refl in
    let past : drop (64 * 64) (m ++ last_part) ≡ last_part =
    drop-append-le 4096 m last_part (omega arith)
    ∙ ap (λ (l : List ℕ). l ++ last_part) (drop_all 4096 m (omega arith)) in
    let after : hash ≡ hash_after initial_hash_256 (padded_message m) (length (padded_message m) / 64) =
    rw (count, whole, hash_after_next initial_hash_256 (m ++ last_part) 64, past)
    (rw (hash_after-append initial_hash_256 m last_part 64 (omega arith)) e) in
    ap (λ (h : List ℕ). digest_bytes h 8) after
