-- A tree of version 1 has objects of one level alone, and operations that end within one level leave no others.
use Rattle.std.proofs.Common.{◌≡◌, ◌≢◌, ◌⊎◌, inl, inr, ℕ, ◌+◌, ◌*◌, ◌/◌, ◌%◌, ◌<◌, ◌≤◌, max, true, List, [], ◌∷◌, length, Ok, refl, sym, subst, arith}
use Rattle.std.specs.Prelude.{Option, Some, None, Result, Err}
use Rattle.std.specs.List.{list_all}
use Rattle.std.specs.FinMap as finite
use Rattle.std.specs.FinMap.{FinMap}
use Rattle.std.specs.Ordering.{nat_cmp}
use Rattle.std.proofs.Math.Nat.{div-add-mod}
use Rattle.std.proofs.lemmas.Bool.{and_parts, cases_eq, cases_lt, leb-true}
use Rattle.base.specs.declared.error.PoolError.{PoolError}
use Rattle.base.specs.declared.operation.Op.{Op}
use Rattle.base.specs.declared.operation.Op.TheVariants.{Create, Remove, Write, SetLength, SetName}
use Rattle.base.specs.declared.pointer.Pointer.{Pointer}
use Rattle.base.specs.formats.Blocks.{Frame}
use Rattle.base.specs.formats.Fields.{entry_in}
use Rattle.base.specs.formats.Limits.{object_count, pointer_count, entry_count, one_level_length}
use Rattle.base.specs.formats.Records.{is_one_level_op}
use Rattle.base.specs.history.Contents.{Contents, apply, at_object, bytes_after_write, changed, created, removed, resize, stored, with_object}
use Rattle.base.specs.kept.PlacedTrees.{HoldsTree, IsEntryFor, IsShort, StandsAt}
use Rattle.base.specs.tree.Places.{Place}
use Rattle.base.specs.tree.Places.Place.{Directory, Indirect, Top}
use Rattle.base.specs.tree.Syncs.{contents_after, contents_after_all}
use Rattle.base.proofs.history.Objects.{get-stored_same, get-stored_other, reached}
use Rattle.base.proofs.history.Writes.{length-resize, length-bytes_after_write}

-- no object of these contents has two levels
abbrev pub AreShort : Contents → Type 0
AreShort c = (n : ℕ) → IsShort (finite.get c.objects n)

-- an operation on one object
one_object : (m : ℕ) (f : Option (List ℕ) → Result (Option (List ℕ)) PoolError) → ((o p : Option (List ℕ)) → IsShort o → f o ≡ Ok p → IsShort p)
    → (c d : Contents) → at_object m f c ≡ Ok d → AreShort c → AreShort d
one_object m f keeps c d h short = go (reached m f c d h)
  where
    each : (o : Option (List ℕ)) → IsShort o → (n : ℕ) → (n ≡ m) ⊎ (n ≢ m) → IsShort (finite.get (stored c.objects m o) n)
    each o good n (inl same) = subst (λ k. IsShort (finite.get (stored c.objects m o) k)) (sym same) (subst (λ q. IsShort q) (sym (get-stored_same c.objects m o)) good)
    each o good n (inr other) = subst (λ q. IsShort q) (sym (get-stored_other c.objects m o n other)) (short n)

    go : (o : Option (List ℕ)) × (f (finite.get c.objects m) ≡ Ok o) × (with_object c m o ≡ d) → AreShort d
    go (o, first, is) = subst (λ (e : Contents). AreShort e) is (λ n. each o (keeps (finite.get c.objects m) o (short m) first) n (cases_eq n m))

by_changed : (f : List ℕ → List ℕ) → ((bytes : List ℕ) → length bytes ≤ one_level_length → length (f bytes) ≤ one_level_length) → (o p : Option (List ℕ)) → IsShort o → changed f o ≡ Ok p → IsShort p
by_changed f within None p is h = absurd (cc)
by_changed f within (Some bytes) p is h = subst (λ q. IsShort q) (let same : Some (f bytes) ≡ p = cc in same) (within bytes is)

one_operation : (op : Op) (c d : Contents) → is_one_level_op op ≡ true → apply op c ≡ Ok d → AreShort c → AreShort d
one_operation (Create n) c d fits h short = one_object n.0 created keeps c d h short
  where
    keeps : (o p : Option (List ℕ)) → IsShort o → created o ≡ Ok p → IsShort p
    keeps None p is e = subst (λ q. IsShort q) (let same : Some [] ≡ p = cc in same) (omega arith)
    keeps (Some bytes) p is e = absurd (cc)
one_operation (Remove n) c d fits h short = one_object n.0 removed keeps c d h short
  where
    keeps : (o p : Option (List ℕ)) → IsShort o → removed o ≡ Ok p → IsShort p
    keeps None p is e = absurd (cc)
    keeps (Some bytes) p is e = subst (λ q. IsShort q) (let same : None ≡ p = cc in same) tt
one_operation (Write n offset new) c d fits h short = one_object n.0 (changed (bytes_after_write offset new)) (by_changed (bytes_after_write offset new) longest) c d h short
  where
    longest : (bytes : List ℕ) → length bytes ≤ one_level_length → length (bytes_after_write offset new bytes) ≤ one_level_length
    longest bytes within =
        let size : length (bytes_after_write offset new bytes) ≡ max (length bytes) (offset + length new) = length-bytes_after_write offset new bytes in
        let end : offset + length new ≤ one_level_length = leb-true (offset + length new) one_level_length fits in
        omega (arith, size, within, end)
one_operation (SetLength n new) c d fits h short = one_object n.0 (changed (resize new)) (by_changed (resize new) (λ bytes within.
    let size : length (resize new bytes) ≡ new = length-resize new bytes in
    let end : new ≤ one_level_length = leb-true new one_level_length fits in
    omega (arith, size, end))) c d h short
one_operation (SetName bytes) c d fits h short = subst (λ (e : Contents). AreShort e) (let same : record { name = bytes; objects = c.objects } ≡ d = cc in same) short

after_one : (op : Op) (c : Contents) → is_one_level_op op ≡ true → AreShort c → AreShort (contents_after op c)
after_one op c fits short = go (apply op c) refl
  where
    go : (r : Result Contents PoolError) → apply op c ≡ r → AreShort (elim r as (λ _. Contents) [ Ok after ↦ after | Err e ↦ c ])
    go (Ok after) is = one_operation op c after fits is short
    go (Err e) is = short

-- all operations of a group
pub all_short : (ops : List Op) (c : Contents) → list_all is_one_level_op ops ≡ true → AreShort c → AreShort (contents_after_all ops c)
all_short [] c fits short = short
all_short (op ∷ ops) c fits short =
    let both = and_parts (is_one_level_op op) (list_all is_one_level_op ops) fits in
    all_short ops (contents_after op c) both.1 (after_one op c both.0 short)

-- a tree of version 1
module _ (image : List ℕ) (frame : Frame) (pointers : Place → Pointer) (objects : FinMap nat_cmp (List ℕ)) (holds : HoldsTree image frame pointers objects) (old : frame.version ≤ 1) where
  by_entry : (entry : List ℕ) (top indirect : Pointer) (o : Option (List ℕ)) → IsEntryFor frame entry top indirect o → IsShort o
  by_entry entry top indirect None is = tt
  by_entry entry top indirect (Some bytes) (inl one) = one.2
  by_entry entry top indirect (Some bytes) (inr two) = absurd (let later = two.0 in omega (arith, old, later))

  by_directory : (d k : ℕ) → k < entry_count → StandsAt image frame pointers objects (Directory d) → IsShort (finite.get objects (entry_count * d + k))
  by_directory d k small (inl (none, below)) = subst (λ o. IsShort o) (sym (below k small).0) tt
  by_directory d k small (inr (payload, opens, below)) =
      by_entry (entry_in payload k) (pointers (Top (entry_count * d + k))) (pointers (Indirect (entry_count * d + k))) (finite.get objects (entry_count * d + k)) (below k small)

  pub tree_short : (n : ℕ) → IsShort (finite.get objects n)
  tree_short n = elim (cases_lt n object_count) as (λ _. IsShort (finite.get objects n)) [
    | inl low ↦
        let d_low : n / entry_count < pointer_count = omega (arith, low) in
        subst (λ (m : ℕ). IsShort (finite.get objects m)) (div-add-mod n entry_count) (by_directory (n / entry_count) (n % entry_count) (omega arith) (holds.each (Directory (n / entry_count)) d_low))
    | inr past ↦ subst (λ o. IsShort o) (sym (holds.no_others n past)) tt
  ]
