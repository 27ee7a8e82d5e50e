-- The objects of a tree with their lengths, as its directories list them.
use Rattle.std.specs.Prelude.{ℕ, zero, suc, ◌≡◌, ◌≢◌, ◌≤◌, ◌<◌, ◌+◌, ◌*◌, ◌⊎◌, List, [], ◌∷◌, ◌++◌, Contains, Option, Some, None}
use Rattle.std.specs.Option.{option_map_or}
use Rattle.base.specs.declared.error.PoolError.{PoolError}
use Rattle.base.specs.declared.names.ObjectId.{ObjectId}
use Rattle.base.specs.declared.pointer.Pointer.{Pointer}
use Rattle.base.specs.formats.Blocks.{Frame}
use Rattle.base.specs.formats.Fields.{pointer_in}
use Rattle.base.specs.formats.Limits.{entry_count, max_length, object_count, pointer_count}
use Rattle.base.specs.tree.Damages.{IsSoundAt, length_in}
use Rattle.base.specs.tree.Places.{levels_in, pointer_of}
use Rattle.base.specs.tree.Places.Place.{Directory, Root}
use Rattle.trees.specs.ObjectPaths.{TellsPlace}

-- objects by rising numbers from this one on and below another, each no longer than an object may be
abbrev pub AreRising : ℕ → List (ObjectId × ℕ) → ℕ → Type 0
AreRising start [] end = start ≤ end
AreRising start (o ∷ others) end = (start ≤ o.0.0) × (o.1 ≤ max_length) × AreRising (o.0.0 + 1) others end

-- these are the objects that the directories have: each has the length of its entry, and none is left out
pub record ListsEntries (image : List ℕ) (root : Pointer) (list : List (ObjectId × ℕ)) : Type 0 where
  pub each : (object : ObjectId) (size : ℕ) → Contains list (object, size) → (levels_in image root object.0 ≢ 0) × (length_in image root object.0 ≡ size)
  pub all : (n : ℕ) → n < object_count → levels_in image root n ≢ 0 → Contains list (record { 0 = n }, length_in image root n)

-- the root is sound, and each directory
abbrev pub AreSoundAbove : List ℕ → Frame → Pointer → Type 0
AreSoundAbove image frame root = IsSoundAt image frame root Root × ((d : ℕ) → d < pointer_count → IsSoundAt image frame root (Directory d))

-- a Damaged tells a directory, and those before it are sound
abbrev pub TellsDirectory : List ℕ → Frame → Pointer → PoolError → Type 0
TellsDirectory image frame root e = (d : ℕ) × (d < pointer_count) × TellsPlace image frame root (Directory d) e × ((c : ℕ) → c < d → IsSoundAt image frame root (Directory c))

-- it tells the root, or the first directory that isn't sound below a sound root
abbrev pub TellsFirstAbove : List ℕ → Frame → Pointer → PoolError → Type 0
TellsFirstAbove image frame root e = TellsPlace image frame root Root e ⊎ (IsSoundAt image frame root Root × TellsDirectory image frame root e)

-- the length of an object whose entry has these levels and this length, if it is there
abbrev pub length_of_entry : ℕ → ℕ → Option ℕ
length_of_entry zero size = None
length_of_entry (suc levels) size = Some size

-- what is listed of the objects whose numbers lie below this one
unfoldable pub listed_to : List ℕ → Pointer → ℕ → List (ObjectId × ℕ)
listed_to image root zero = []
listed_to image root (suc n) =
    listed_to image root n ++ option_map_or (λ (size : ℕ). (record { 0 = n }, size) ∷ []) (length_of_entry (levels_in image root n) (length_in image root n)) []

-- the payload of the root has the pointers to the directories
abbrev pub NamesDirectories : List ℕ → Pointer → List ℕ → Type 0
NamesDirectories image root payload = (d : ℕ) → d < pointer_count → pointer_of image root (Directory d) ≡ pointer_in payload d

-- so many directories are sound, and their objects are listed
pub record AreListed (image : List ℕ) (frame : Frame) (root : Pointer) (count : ℕ) (list : List (ObjectId × ℕ)) : Type 0 where
  pub sound : (d : ℕ) → d < count → IsSoundAt image frame root (Directory d)
  pub list_is : list ≡ listed_to image root (entry_count * count)
