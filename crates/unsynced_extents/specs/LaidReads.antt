-- What bytes of records become where the changes of all groups are laid over them.
use Rattle.std.specs.Prelude.{ℕ, ◌≡◌, ◌⊎◌, true, List, is_some, length}
use Rattle.std.specs.Ordering.{nat_cmp}
use Rattle.std.specs.FinMap as finite
use Rattle.std.specs.FinMap.{FinMap}
use Rattle.tree_blocks.specs.Sources.{AreBytesFrom, object_bytes}
use Rattle.extents.specs.Objects.{HidesBelow}
use Rattle.unsynced_extents.specs.declared.unsynced.UnsyncedExtents.{UnsyncedExtents}
use Rattle.unsynced_extents.specs.Unsynced.{changes_at, laid_all}

-- one of the groups hides all of so many bytes
abbrev pub HidesAll : UnsyncedExtents → ℕ → ℕ → ℕ → Type 0
HidesAll e n offset count = HidesBelow (changes_at e 2 n) offset count ⊎ (HidesBelow (changes_at e 1 n) offset count ⊎ HidesBelow (changes_at e 0 n) offset count)

-- From bytes of object n of the objects below, from an offset on, to those of the object with the changes of all groups,
-- if it is there. Where a group hides them all, they may be any.
abbrev pub LaysOnAll : UnsyncedExtents → ℕ → ℕ → List ℕ → List ℕ → Type 0
LaysOnAll e n offset old new = (below : FinMap nat_cmp (List ℕ)) → is_some (finite.get (laid_all e below) n) ≡ true
    → HidesAll e n offset (length old) ⊎ AreBytesFrom offset (object_bytes below n) old
    → AreBytesFrom offset (object_bytes (laid_all e below) n) new
