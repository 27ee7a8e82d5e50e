-- The patches of a group, by the numbers of objects, and the name that it gives.
use Rattle.std.specs.Prelude.{ℕ, ◌≡◌, ◌≢◌, ◌<◌, List, length, All, Option, Some, IfSome, IsSome, IsSomeAnd, nat_eq}
use Rattle.std.specs.Option.{option_map_or}
use Rattle.std.specs.HashMap.{get}
use Rattle.base.specs.declared.operation.Op.{Op}
use Rattle.base.specs.declared.operation.Op.TheVariants.{Create, Remove, Write, SetLength, SetName}
use Rattle.base.specs.history.Contents.{name_given_by_all}
use Rattle.extents.specs.declared.object.ObjectPatch.{ObjectPatch}
use Rattle.extents.specs.declared.extents.Extents.{Extents}
use Rattle.extents.specs.Patches.{Patch, Patches, no_patch, with_ops}
use Rattle.extents.specs.Objects.{HasRoomFrom, HidesBelow, KeepsRoom, patch_of}

-- the entry of an object
abbrev pub entry_at : Extents → ℕ → Option ObjectPatch
entry_at e n = get nat_eq e.patches n

abbrev pub patch_in : Option ObjectPatch → Patch
patch_in entry = option_map_or patch_of entry no_patch

-- what the group made of each object
abbrev pub patches_of : Extents → Patches
patches_of e n = patch_in (entry_at e n)

-- the name that the group gives the pool, if it gives one
abbrev pub name_of : Extents → Option (List ℕ)
name_of e = e.name

abbrev pub HasEntry : Extents → ℕ → Type 0
HasEntry e n = IsSome (entry_at e n)

-- an entry that was there is as it was
abbrev pub KeepsEntries : Extents → Extents → Type 0
KeepsEntries old new = (n : ℕ) (o : ObjectPatch) → entry_at old n ≡ Some o → entry_at new n ≡ Some o

-- two patches say the same
pub record IsSame (p q : Patch) : Type 0 where
  pub basis : p.basis ≡ q.basis
  pub written : (i : ℕ) → p.written i ≡ q.written i

-- all objects have patches that say the same, and the name is the same
pub record IsLeft (old new : Extents) : Type 0 where
  pub patches : (n : ℕ) → IsSame (patches_of new n) (patches_of old n)
  pub name : name_of new ≡ name_of old

-- an object has an entry with the room for so many bytes from an offset on
abbrev pub HasRoomIn : Extents → ℕ → ℕ → ℕ → Type 0
HasRoomIn e n offset count = IsSomeAnd (entry_at e n) (λ o. HasRoomFrom o offset count)

-- no room is less than it was
abbrev pub KeepsRooms : Extents → Extents → Type 0
KeepsRooms old new = (n : ℕ) → IfSome (entry_at old n) (λ before. IsSomeAnd (entry_at new n) (λ after. KeepsRoom before after))

-- the entries of other objects are as they were
abbrev pub KeepsOtherEntries : ℕ → Extents → Extents → Type 0
KeepsOtherEntries m old new = (n : ℕ) → n ≢ m → entry_at new n ≡ entry_at old n

-- the object of an operation has an entry, and the room for what it writes
abbrev pub CanApply : Extents → Op → Type 0
CanApply e (Create n) = HasEntry e n.0
CanApply e (Remove n) = HasEntry e n.0
CanApply e (Write n offset bytes) = HasRoomIn e n.0 offset (length bytes)
CanApply e (SetLength n new) = HasEntry e n.0
CanApply e (SetName bytes) = Unit {0}

abbrev pub CanApplyAll : Extents → List Op → Type 0
CanApplyAll e ops = All (CanApply e) ops

-- operations that had their room have it
abbrev pub CanStillApply : Extents → Extents → Type 0
CanStillApply old new = (ops : List Op) → CanApplyAll old ops → CanApplyAll new ops

-- the new changes are those of before with these operations
pub record AppliesOps (ops : List Op) (old new : Extents) : Type 0 where
  pub patches : (n : ℕ) → IsSame (patches_of new n) (with_ops ops (patches_of old) n)
  pub name : name_of new ≡ name_given_by_all ops (name_of old)

-- there are bytes, so many from an offset of object n on, and none of the object below is seen among them
abbrev pub SeesNone : Extents → ℕ → ℕ → ℕ → Type 0
SeesNone e n offset count = (0 < count) × HidesBelow (patches_of e n) offset count
