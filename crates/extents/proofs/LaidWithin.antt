-- The patches of a group are sized, and objects within the limits stay within them with these laid over.
use Rattle.std.proofs.Common.{◌≡◌, ℕ, ◌<◌, ◌≤◌, List, Option, Some, None, length, false, true, arith, ◌⊎◌, inl, inr}
use Rattle.std.specs.Prelude.{IfSome, option_map}
use Rattle.std.specs.Ordering.{nat_cmp}
use Rattle.std.specs.FinMap as finite
use Rattle.std.specs.FinMap.{FinMap}
use Rattle.std.proofs.lemmas.Bool.{cases_lt}
use Rattle.base.specs.formats.Limits.{object_count, max_length}
use Rattle.extents.specs.declared.basis.Basis.{Basis}
use Rattle.extents.specs.declared.basis.Basis.TheVariants.{Grown, Cut, Made, Gone}
use Rattle.extents.specs.declared.object.ObjectPatch.{ObjectPatch}
use Rattle.extents.specs.declared.extents.Extents.{Extents}
use Rattle.tree_blocks.specs.ListedObjects.{AreWithin}
use Rattle.extents.specs.Laws.{StayWithin}
use Rattle.extents.specs.Patches.{Patches, IsSized, laid_over, least_length, length_over, patched}
use Rattle.extents.specs.Tables.{entry_at, patch_in, patches_of}
use Rattle.extents.proofs.LaidObjects.{get-laid_over, get-laid_past}
use Rattle.extents.proofs.PatchedObjects.{patched_length}

-- the type of an entry says that it is sized, and an object without an entry has nothing written
pub sized_in : (entry : Option ObjectPatch) → IsSized (patch_in entry)
sized_in None = λ i is. absurd (let no_way : false ≡ true = is in cc)
sized_in (Some o) = o.sized

least_in : (entry : Option ObjectPatch) → least_length (patch_in entry).basis ≤ max_length
least_in None = omega arith
least_in (Some o) = o.within

pub patches_sized : (e : Extents) (n : ℕ) → IsSized (patches_of e n)
patches_sized e n = sized_in (entry_at e n)

pub patches_within : (e : Extents) (n : ℕ) → least_length (patches_of e n).basis ≤ max_length
patches_within e n = least_in (entry_at e n)

-- the patched object is no longer than an object may be
length-within : (basis : Basis) (below : Option ℕ) → least_length basis ≤ max_length → IfSome below (λ size. size ≤ max_length)
    → IfSome (length_over basis below) (λ size. size ≤ max_length)
length-within (Grown end) None least within = tt
length-within (Grown end) (Some size) least within = omega arith
length-within (Cut kept new) None least within = tt
length-within (Cut kept new) (Some size) least within = least
length-within (Made new) below least within = least
length-within Gone below least within = tt

of-length : (n : ℕ) (o : Option (List ℕ)) → IfSome o (λ bytes. (n < object_count) × (length bytes ≤ max_length)) → IfSome (option_map length o) (λ size. size ≤ max_length)
of-length n None within = tt
of-length n (Some bytes) within = within.1

to-length : (n : ℕ) (o : Option (List ℕ)) → n < object_count → IfSome (option_map length o) (λ size. size ≤ max_length) → IfSome o (λ bytes. (n < object_count) × (length bytes ≤ max_length))
to-length n None low within = tt
to-length n (Some bytes) low within = (low, within)

pub laid_within : (patches : Patches) (below : FinMap nat_cmp (List ℕ)) → ((n : ℕ) → least_length (patches n).basis ≤ max_length) → AreWithin below → AreWithin (laid_over patches below)
laid_within patches below least within n = at (cases_lt n object_count)
  where
    at : (n < object_count) ⊎ (object_count ≤ n) → IfSome (finite.get (laid_over patches below) n) (λ bytes. (n < object_count) × (length bytes ≤ max_length))
    at (inl l) =
        rw (get-laid_over patches below n l) (to-length n (patched (patches n) (finite.get below n)) l
        (rw (patched_length (patches n) (finite.get below n)) (length-within (patches n).basis (option_map length (finite.get below n)) (least n) (of-length n (finite.get below n) (within n)))))
    at (inr g) = rw (get-laid_past patches below n g) tt

pub stay_within : StayWithin
stay_within e = (patches_sized e, λ below. laid_within (patches_of e) below (patches_within e))
