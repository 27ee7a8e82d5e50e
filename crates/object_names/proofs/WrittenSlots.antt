-- Parts of an object after a write to it, and the slots of object 0 after a write of one.
use Rattle.std.proofs.Common.{◌≡◌, ℕ, ◌+◌, ◌-◌, ◌*◌, ◌<◌, ◌≤◌, List, ◌++◌, drop, length, replicate, take, refl, ap, sym, ◌∙◌, append_assoc, arith, length-append, length-drop}
use Rattle.std.proofs.lemmas.List.{drop-append-le, drop-drop, drop-replicate, drop-take, drop_at, places, take-append-le, take-replicate, take-take, take_all, take_at}
use Rattle.std.proofs.Math.Seq.{drop-append-add}
use Rattle.base.specs.formats.Fields.{part}
use Rattle.base.specs.history.Contents.{bytes_after_write, resize}
use Rattle.object_names.specs.NameTables.{slot_at}

length-resize : (at : ℕ) (bytes : List ℕ) → length (resize at bytes) ≡ at
length-resize at bytes = grind (arith, places)

-- the bytes that were written
part-same : (at : ℕ) (new bytes : List ℕ) → part (bytes_after_write at new bytes) at (length new) ≡ new
part-same at new bytes =
    let front : List ℕ = resize at bytes in
    let rest : List ℕ = drop (at + length new) bytes in
    ap (λ (l : List ℕ). take (length new) (drop at l)) (append_assoc front new rest)
    ∙ ap (λ (l : List ℕ). take (length new) l) (drop_at front (new ++ rest) at (length-resize at bytes))
    ∙ take_at new rest (length new) refl

-- bytes behind them
part-behind : (at place size : ℕ) (new bytes : List ℕ) → at + length new ≤ place → part (bytes_after_write at new bytes) place size ≡ part bytes place size
part-behind at place size new bytes behind =
    let front : List ℕ = resize at bytes in
    let rest : List ℕ = drop (at + length new) bytes in
    let after : List ℕ = front ++ new ++ rest in
    let more : ℕ = place - (at + length new) in
    let there : at + length new + more ≡ place = omega arith in
    let seam : length (front ++ new) ≡ at + length new = omega (arith, length-append front new, length-resize at bytes) in
    ap (λ (k : ℕ). take size (drop k after)) (sym there)
    ∙ ap (λ (l : List ℕ). take size l) (sym (drop-drop more (at + length new) after))
    ∙ ap (λ (l : List ℕ). take size (drop more l)) (drop_at (front ++ new) rest (at + length new) seam)
    ∙ ap (λ (l : List ℕ). take size l) (drop-drop more (at + length new) bytes)
    ∙ ap (λ (k : ℕ). take size (drop k bytes)) there

-- a part of a front
part-front : (place size : ℕ) (front rest : List ℕ) → place + size ≤ length front → part (front ++ rest) place size ≡ part front place size
part-front place size front rest within =
    ap (λ (l : List ℕ). take size l) (drop-append-le place front rest (omega arith))
    ∙ take-append-le size (drop place front) rest (omega (arith, length-drop place front))

part-resized : (at place size : ℕ) (new bytes : List ℕ) → place + size ≤ at → part (bytes_after_write at new bytes) place size ≡ part (resize at bytes) place size
part-resized at place size new bytes within =
    let front : List ℕ = resize at bytes in
    let rest : List ℕ = drop (at + length new) bytes in
    ap (λ (l : List ℕ). part l place size) (append_assoc front new rest)
    ∙ part-front place size front (new ++ rest) (omega (arith, length-resize at bytes))

-- bytes before those that were written
part-before : (at place size : ℕ) (new bytes : List ℕ) → place + size ≤ at → place + size ≤ length bytes → part (bytes_after_write at new bytes) place size ≡ part bytes place size
part-before at place size new bytes before within =
    let kept : List ℕ = take at bytes in
    let more : ℕ = at - place in
    let there : place + more ≡ at = omega arith in
    let long : place + size ≤ length kept = grind (arith, places) in
    part-resized at place size new bytes before
    ∙ part-front place size kept (replicate (at - length bytes) 0) long
    ∙ ap (λ (k : ℕ). take size (drop place (take k bytes))) (sym there)
    ∙ ap (λ (l : List ℕ). take size l) (drop-take place more bytes)
    ∙ take-take size more (drop place bytes) (omega arith)

-- zeros between the end and those
part-between : (at place size : ℕ) (new bytes : List ℕ) → place + size ≤ at → length bytes ≤ place → part (bytes_after_write at new bytes) place size ≡ replicate size 0
part-between at place size new bytes before past =
    let zeros : List ℕ = replicate (at - length bytes) 0 in
    let more : ℕ = place - length bytes in
    let there : length bytes + more ≡ place = omega arith in
    part-resized at place size new bytes before
    ∙ ap (λ (l : List ℕ). part (l ++ zeros) place size) (take_all at bytes (omega arith))
    ∙ ap (λ (k : ℕ). take size (drop k (bytes ++ zeros))) (sym there)
    ∙ ap (λ (l : List ℕ). take size l) (drop-append-add bytes zeros more ∙ drop-replicate more (at - length bytes) 0)
    ∙ take-replicate size (at - length bytes - more) 0 (omega arith)

pub length-written : (n : ℕ) (slot bytes : List ℕ) → length slot ≡ 256 → 256 * n + 256 ≤ length bytes → length (bytes_after_write (256 * n) slot bytes) ≡ length bytes
length-written n slot bytes size there = grind (arith, places)

pub length-lengthened : (n : ℕ) (slot bytes : List ℕ) → length slot ≡ 256 → length bytes ≤ 256 * n → length (bytes_after_write (256 * n) slot bytes) ≡ 256 * n + 256
length-lengthened n slot bytes size past = grind (arith, places)

-- the slot itself
pub slot_at-same : (n : ℕ) (slot bytes : List ℕ) → length slot ≡ 256 → slot_at (bytes_after_write (256 * n) slot bytes) n ≡ slot
slot_at-same n slot bytes size =
    ap (λ (k : ℕ). part (bytes_after_write (256 * n) slot bytes) (256 * n) k) (sym size) ∙ part-same (256 * n) slot bytes

-- a slot before it
pub slot_at-before : (m n : ℕ) (slot bytes : List ℕ) → m < n → 256 * m + 256 ≤ length bytes
    → slot_at (bytes_after_write (256 * n) slot bytes) m ≡ slot_at bytes m
slot_at-before m n slot bytes before there = part-before (256 * n) (256 * m) 256 slot bytes (omega arith) there

-- one between the end and it
pub slot_at-between : (m n : ℕ) (slot bytes : List ℕ) → m < n → length bytes ≤ 256 * m
    → slot_at (bytes_after_write (256 * n) slot bytes) m ≡ replicate 256 0
slot_at-between m n slot bytes before past = part-between (256 * n) (256 * m) 256 slot bytes (omega arith) past

-- one behind it
pub slot_at-behind : (m n : ℕ) (slot bytes : List ℕ) → length slot ≡ 256 → n < m
    → slot_at (bytes_after_write (256 * n) slot bytes) m ≡ slot_at bytes m
slot_at-behind m n slot bytes size behind = part-behind (256 * n) (256 * m) 256 slot bytes (omega (arith, size))
