-- What holds of the changes of a group.
use Rattle.std.specs.Prelude.{ℕ, ◌≡◌, List, [], ◌++◌, Option, Ok, length, option_map}
use Rattle.std.specs.Ordering.{nat_cmp}
use Rattle.std.specs.FinMap.{FinMap}
use Rattle.base.specs.declared.operation.Op.{Op}
use Rattle.base.specs.history.Contents.{Contents}
use Rattle.base.specs.history.History.{apply_all}
use Rattle.tree_blocks.specs.ListedObjects.{AreWithin}
use Rattle.extents.specs.declared.extents.Extents.{Extents}
use Rattle.extents.specs.Tables.{AppliesOps, patches_of}
use Rattle.extents.specs.Patches.{Patch, Patches, IsSized, length_over, ArePatchesOf, AreNumbered, patched, no_patch, with_ops, laid_over}

-- what no operation has changed is as it lies below
abbrev pub NothingChanges : Type 0
NothingChanges = ((below : Option (List ℕ)) → patched no_patch below ≡ below) × ArePatchesOf [] (λ n. no_patch)

-- the length of a patched object follows from that of the one below
abbrev pub LengthsFollow : Type 0
LengthsFollow = (p : Patch) (below : Option (List ℕ)) → option_map length (patched p below) ≡ length_over p.basis (option_map length below)

-- the changes of some operations become those of more
abbrev pub ChangesFollow : Type 0
ChangesFollow = (earlier ops : List Op) (patches : Patches) → ((n : ℕ) → IsSized (patches n)) → ArePatchesOf earlier patches → ArePatchesOf (earlier ++ ops) (with_ops ops patches)

-- what a group adds to its changes are the changes of what it added
abbrev pub AddedChanges : Type 0
AddedChanges = (earlier ops : List Op) (old new : Extents) → ArePatchesOf earlier (patches_of old) → AppliesOps ops old new
    → ArePatchesOf (earlier ++ ops) (patches_of new)

-- the patches of a group are sized, and with them laid over, objects within the limits are within them
abbrev pub StayWithin : Type 0
StayWithin = (e : Extents) → ((n : ℕ) → IsSized (patches_of e n)) × ((below : FinMap nat_cmp (List ℕ)) → AreWithin below → AreWithin (laid_over (patches_of e) below))

-- the changes of operations, laid over objects that they apply to, are the objects after them
abbrev pub GroupIsRead : Type 0
GroupIsRead = (ops : List Op) (patches : Patches) (before after : Contents) → ArePatchesOf ops patches → apply_all ops before ≡ Ok after
    → AreNumbered before.objects → AreNumbered after.objects → laid_over patches before.objects ≡ after.objects
