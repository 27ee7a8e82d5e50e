-- The bytes of a slot, and the name that is read from them.
use Rattle.std.proofs.Common.{◌≡◌, ℕ, ◌+◌, ◌-◌, ◌≤◌, List, [], ◌∷◌, ◌++◌, codes, drop, length, replicate, refl, ap, ◌∙◌, arith, length-append}
use Rattle.std.proofs.lemmas.List.{drop-replicate, drop-set-lt, length-replicate, take_at}
use Rattle.std.proofs.Math.ListN.{set}
use Rattle.base.specs.disk.Disk.{put}
use Rattle.object_names.specs.Slots.{header_bytes, name_in, slot_bytes}

-- the slot of a name, as it is made from zeros
pub slot-put : (name : List ℕ) → length name ≤ 254 → put 2 name (set (replicate 256 0) 0 (length name)) ≡ slot_bytes name
unfolding slot_bytes
slot-put name short =
    let zeros : drop (2 + length name) (set (replicate 256 0) 0 (length name)) ≡ replicate (254 - length name) 0 =
    drop-set-lt (2 + length name) (replicate 256 0) 0 (length name) (omega arith)
    ∙ drop-replicate (2 + length name) 256 0
    ∙ ap (λ (k : ℕ). replicate k 0) (omega arith) in
    ap (λ (l : List ℕ). (length name ∷ 0 ∷ []) ++ (name ++ l)) zeros

pub header-put : put 0 (codes "topzerad names 1") (replicate 256 0) ≡ header_bytes
unfolding header_bytes
header-put = refl

-- a name that is written is read
pub name_in-slot_bytes : (name : List ℕ) → name_in (slot_bytes name) ≡ name
unfolding slot_bytes name_in
name_in-slot_bytes name = take_at name (replicate (254 - length name) 0) (length name) refl

pub length-slot_bytes : (name : List ℕ) → length name ≤ 254 → length (slot_bytes name) ≡ 256
unfolding slot_bytes
length-slot_bytes name short =
    omega (arith, length-append name (replicate (254 - length name) 0), length-replicate {A = ℕ} (254 - length name) 0, short)
