-- The contents that operations reach are those of before with the changes that the operations add laid over them.
use Rattle.std.proofs.Common.{◌≡◌, ℕ, ◌+◌, ◌<◌, ◌≤◌, ◌⊎◌, inl, inr, true, false, List, [], ◌∷◌, Option, None, Ok, refl, ap, sym, ◌∙◌, arith, append-nil, length}
use Rattle.std.specs.Prelude.{fold, nat_lt, nat_le, unwrap_or, ◌&&◌, ◌==◌}
use Rattle.std.specs.Ordering.{nat_cmp}
use Rattle.std.specs.FinMap as finite
use Rattle.std.specs.FinMap.{FinMap, nat_cmp-IsAntisymmetric, same_map}
use Rattle.std.proofs.lemmas.Bool.{and_parts, cases_lt, ltb-true, ne_eqb}
use Rattle.std.proofs.lemmas.Cmp.{nat_cmp_total}
use Rattle.std.proofs.lemmas.List.Elements.{All-head, All-tail}
use Rattle.base.specs.declared.names.ObjectId.{ObjectId}
use Rattle.base.specs.declared.operation.Op.{Op}
use Rattle.base.specs.declared.operation.Op.TheVariants.{Create, Remove, Write, SetLength, SetName}
use Rattle.base.specs.formats.Limits.{max_length, object_count}
use Rattle.base.specs.history.Contents.{Contents, object_after}
use Rattle.base.specs.history.History.{Entry, apply_all, replay}
use Rattle.base.specs.history.Plans.{is_shape_allowed, shape_of}
use Rattle.base.proofs.history.Names.{name-apply_all}
use Rattle.base.proofs.history.Projections.{objects_replay}
use Rattle.contents.specs.Ops.{AreOpsAllowed, IsOpAllowed}
use Rattle.extents.specs.declared.extents.Extents.{Extents}
use Rattle.extents.specs.Patches.{laid_over}
use Rattle.extents.specs.Synced.{patched_contents}
use Rattle.extents.specs.Tables.{AppliesOps, name_of, patches_of}
use Rattle.extents.proofs.LaidObjects.{get-laid_over, get-laid_past}
use Rattle.extents.proofs.LaidWithin.{patches_sized}
use Rattle.extents.proofs.PatchedObjects.{after_patches}
use Rattle.extents.proofs.SamePatches.{same_patched}

-- an operation within its limits leaves the numbers past the last one
left_one : (n : ℕ) (op : Op) (object : Option (List ℕ)) → object_count ≤ n → is_shape_allowed (shape_of op) ≡ true → object_after n op object ≡ object
left_one n op object past allowed = go op allowed
  where
    apart : (m : ObjectId) → nat_lt m.0 object_count ≡ true → (n == m.0) ≡ false
    apart m low = ne_eqb n m.0 (λ e. let below : m.0 < object_count = ltb-true m.0 object_count low in omega (arith, past, below, e))

    go : (op : Op) → is_shape_allowed (shape_of op) ≡ true → object_after n op object ≡ object
    go (Create m) allowed = rw (apart m allowed) refl
    go (Remove m) allowed = rw (apart m allowed) refl
    go (Write m offset bytes) allowed =
        let first = (and_parts (nat_lt m.0 object_count && nat_lt 0 (length bytes)) (nat_le (offset + length bytes) max_length) allowed).0 in
        rw (apart m (and_parts (nat_lt m.0 object_count) (nat_lt 0 (length bytes)) first).0) refl
    go (SetLength m size) allowed = rw (apart m (and_parts (nat_lt m.0 object_count) (nat_le size max_length) allowed).0) refl
    go (SetName bytes) allowed = refl

pub left_all : (n : ℕ) (ops : List Op) (object : Option (List ℕ)) → object_count ≤ n → AreOpsAllowed ops → fold (λ o op. object_after n op o) object ops ≡ object
left_all n [] object past allowed = refl
left_all n (op ∷ ops) object past allowed =
    ap (λ o. fold (λ o op. object_after n op o) o ops) (left_one n op object past (All-head IsOpAllowed op ops allowed).1)
    ∙ left_all n ops object past (All-tail IsOpAllowed op ops allowed)

-- an object after operations
pub object_reached : (ops : List Op) (c d : Contents) (n : ℕ) → apply_all ops c ≡ Ok d → finite.get d.objects n ≡ fold (λ o op. object_after n op o) (finite.get c.objects n) ops
object_reached ops c d n h =
    let entry : Entry = record { group = 0; tx = 0; ops = ops } in
    let replays : replay (entry ∷ []) c ≡ Ok d = rw h refl in
    objects_replay (entry ∷ []) c d n replays ∙ ap (fold (λ o op. object_after n op o) (finite.get c.objects n)) (append-nil ops)

-- The contents with the old changes laid over them, after operations, are those with the new changes.
pub reached_contents : (ops : List Op) (old new : Extents) (synced after : Contents) → AreOpsAllowed ops → AppliesOps ops old new
    → apply_all ops (patched_contents (patches_of old) (name_of old) synced) ≡ Ok after → after ≡ patched_contents (patches_of new) (name_of new) synced
reached_contents ops old new synced after allowed added reaches =
    let named : after.name ≡ unwrap_or (name_of new) synced.name =
    name-apply_all ops (name_of old) synced.name (patched_contents (patches_of old) (name_of old) synced) after refl reaches ∙ ap (λ (given : Option (List ℕ)). unwrap_or given synced.name) (sym added.name) in
    let laid : after.objects ≡ laid_over (patches_of new) synced.objects = same_map nat_cmp_total nat_cmp-IsAntisymmetric _ _ (λ n. at n (cases_lt n object_count)) in
    λ i. record { name = named i; objects = laid i }
  where
    over : FinMap nat_cmp (List ℕ)
    over = laid_over (patches_of old) synced.objects

    at : (n : ℕ) → (n < object_count) ⊎ (object_count ≤ n) → finite.get after.objects n ≡ finite.get (laid_over (patches_of new) synced.objects) n
    at n (inl low) =
        let below : Option (List ℕ) = finite.get synced.objects n in
        object_reached ops (patched_contents (patches_of old) (name_of old) synced) after n reaches
        ∙ ap (λ o. fold (λ o op. object_after n op o) o ops) (get-laid_over (patches_of old) synced.objects n low)
        ∙ sym (after_patches ops n (patches_of old n) below (patches_sized old n))
        ∙ sym (same_patched (patches_of new n) _ below (added.patches n))
        ∙ sym (get-laid_over (patches_of new) synced.objects n low)
    at n (inr past) =
        object_reached ops (patched_contents (patches_of old) (name_of old) synced) after n reaches
        ∙ ap (λ o. fold (λ o op. object_after n op o) o ops) (get-laid_past (patches_of old) synced.objects n past)
        ∙ left_all n ops None past allowed
        ∙ sym (get-laid_past (patches_of new) synced.objects n past)
