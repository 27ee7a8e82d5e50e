use Rattle.std.proofs.Common.{◌≡◌, Bool, true, false, inl, inr, refl, arith}
use Rattle.std.specs.Prelude.{IsTrue}
use Rattle.base.proofs.tree.Strips.{record-count}
use Rattle.unsynced_extents.specs.LaidReads.{HidesAll}
use Rattle.extents.specs.Patches.{no_patch}
use Rattle.unsynced_extents.specs.Unsynced.{changes_at}
use Rattle.unsynced_extents.specs.declared.unsynced.UnsyncedExtents.{UnsyncedExtents}
use Rattle.object_maps_clients.proofs.SmallObjects.{untouched-shows}
use Rattle.object_maps_clients.proofs.changes.reads.bytes_that_no_group_touched_are_not_hidden.Goals as goal

shows : (e : UnsyncedExtents) (hidden : Bool) → changes_at e 0 7 ≡ no_patch → changes_at e 1 7 ≡ no_patch → changes_at e 2 7 ≡ no_patch → (IsTrue hidden → HidesAll e 7 5 1) → hidden ≡ false
shows e false oldest second third hides = refl
shows e true oldest second third hides = by (hides refl)
  where
    by : HidesAll e 7 5 1 → true ≡ false
    by (inl h) = untouched-shows (changes_at e 2 7) true 5 third (λ is. h)
    by (inr (inl h)) = untouched-shows (changes_at e 1 7) true 5 second (λ is. h)
    by (inr (inr h)) = untouched-shows (changes_at e 0 7) true 5 oldest (λ is. h)

pub hides-requires-clause-index : goal.hides-requires-clause-index
hides-requires-clause-index c = omega (arith, record-count)

pub returns : goal.returns
returns c = shows c.args.unsynced.now c.hides.result c.requires.oldest c.requires.second c.requires.third c.hides.ensures
