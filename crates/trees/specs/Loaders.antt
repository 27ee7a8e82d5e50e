-- What the parts of a load say: of the objects that are loaded so far, and of the image that the device has.
use Rattle.std.specs.Prelude.{ℕ, ◌≡◌, Bool, IsTrue, List, length, Some}
use Rattle.std.specs.Ordering.{nat_cmp}
use Rattle.std.specs.FinMap.{FinMap}
use Rattle.base.specs.declared.pointer.Pointer.{Pointer}
use Rattle.base.specs.disk.Disk.{Disk, bytes_of}
use Rattle.tree_blocks.specs.declared.tree.ObjectEntry.{ObjectEntry}
use Rattle.tree_blocks.specs.declared.forms.Entry.{Entry}
use Rattle.trees.specs.declared.objects.Objects.{Objects}
use Rattle.trees.specs.FreeBlocks.{AreMarked}
use Rattle.trees.specs.Loading.{AreEmptyFrom}
use Rattle.space.specs.FreeSets.{FreeSpace}

-- what holds of a walk over the image of a device that keeps the model, from a root
abbrev pub OnWalk : Bool → Disk → (List ℕ → Pointer → Type 0) → Type 0
OnWalk keeps disk P = IsTrue keeps → (image : List ℕ) (root : Pointer) → bytes_of disk.now ≡ image → P image root

-- entries stand for these objects
abbrev pub StandFor : Objects → FinMap nat_cmp (List ℕ) → Type 0
StandFor o objects = o.told.value ≡ objects

-- Entries stand for objects of which none is there from this number on. After a walk they stand for other objects, and
-- this is true of both and of the entries. The blocks that the new entries name are taken.
abbrev pub LoadsFrom : ℕ → Objects → Objects → FreeSpace → FreeSpace → (FinMap nat_cmp (List ℕ) → FinMap nat_cmp (List ℕ) → List ObjectEntry → List ObjectEntry → Type 0) → Type 0
LoadsFrom start old new free left P =
    (before : FinMap nat_cmp (List ℕ)) → StandFor old before → AreEmptyFrom start before old.entries.items
    → (after : FinMap nat_cmp (List ℕ)) × StandFor new after
    × ((blocks : ℕ) → AreMarked old.entries.items blocks free → AreMarked new.entries.items blocks left)
    × P before after old.entries.items new.entries.items

-- an object has the length and the pointer that its entry has
pub record IsObjectOf (entry : Entry) (bytes : List ℕ) (kept : ObjectEntry) : Type 0 where
  pub size : length bytes ≡ entry.length
  pub pointer : kept.pointer ≡ entry.pointer
  pub length : kept.length ≡ Some entry.length
