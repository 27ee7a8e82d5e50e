-- Objects of which some records are at hand, and stand in the place of their own.
use Rattle.std.specs.Prelude.{ℕ, ◌≡◌, ◌<◌, ◌≤◌, ◌+◌, ◌*◌, ◌/◌, ◌%◌, ◌⊎◌, true, List, get_or, is_some, length, map, nat_lt, option_map, Option, None, Some, if◌then◌else◌}
use Rattle.std.specs.List.{range_with_len}
use Rattle.std.specs.Option.{option_map_or}
use Rattle.std.specs.BTreeMap as tree
use Rattle.std.specs.BTreeMap.{BTreeMap}
use Rattle.std.specs.Ordering.{nat_cmp}
use Rattle.std.specs.FinMap as finite
use Rattle.std.specs.FinMap.{FinMap}
use Rattle.base.specs.formats.Limits.{object_count, pointer_count, record_count, record_size}
use Rattle.base.specs.declared.error.PoolError.{PoolError}
use Rattle.base.specs.declared.error.PoolError.TheVariants.{NoMemory, Read}
use Rattle.base.specs.declared.pointer.Pointer.{Pointer}
use Rattle.base.specs.formats.Blocks.{Frame}
use Rattle.base.specs.tree.Places.{Place, record_of_strip, strip_number}
use Rattle.base.specs.tree.Places.Place.{Data}
use Rattle.base.specs.kept.PlacedTrees.{HoldsTree}
use Rattle.object_maps.specs.Cached.{IsReadRefusal}
use Rattle.tree_blocks.specs.Sources.{AreBytesFrom, object_bytes, object_record}
use Rattle.extents.specs.Objects.{HidesBelow}
use Rattle.extents.specs.Patches.{Patches, objects_up_to}
use Rattle.tree_plans.specs.declared.changes.ObjectChanges.{ObjectChanges}
use Rattle.tree_blocks.specs.declared.object_map.ObjectMap.{ObjectMap}
use Rattle.tree_blocks.specs.declared.place.RecordPlace.{RecordPlace}
use Rattle.tree_plans.specs.Changes.{is_strip_dirty}
use Rattle.tree_blocks.specs.ReadPointers.{read_record}

-- record r of object n, if it is among these
abbrev pub at_hand : BTreeMap ℕ (List ℕ) → ℕ → ℕ → Option (List ℕ)
at_hand records n r = if nat_lt r record_count then tree.get nat_cmp records (record_count * n + r) else None

-- a byte of an object, and all of them: those of its records at hand, and otherwise its own
abbrev pub byte_with : (ℕ → Option (List ℕ)) → List ℕ → ℕ → ℕ
byte_with records bytes k = option_map_or (λ (payload : List ℕ). get_or payload (k % record_size) 0) (records (k / record_size)) (get_or bytes k 0)

abbrev pub bytes_with : (ℕ → Option (List ℕ)) → List ℕ → List ℕ
bytes_with records bytes = map (byte_with records bytes) (range_with_len 0 (length bytes))

-- objects with these records. Their lengths stay.
abbrev pub with_records : (ℕ → ℕ → Option (List ℕ)) → FinMap nat_cmp (List ℕ) → FinMap nat_cmp (List ℕ)
with_records records objects = objects_up_to object_count (λ n. option_map (bytes_with (records n)) (finite.get objects n))

-- of a record of an object, what lies past the object's end is zeros
abbrev pub IsClearedPast : List ℕ → ℕ → List ℕ → Type 0
IsClearedPast bytes r payload = (length payload ≡ record_size) × ((k : ℕ) → k < record_size → length bytes ≤ record_size * r + k → get_or payload k 0 ≡ 0)

-- what lies before the end is as it was
abbrev pub KeepsFront : List ℕ → ℕ → List ℕ → List ℕ → Type 0
KeepsFront bytes r old new = (k : ℕ) → k < record_size → record_size * r + k < length bytes → get_or new k 0 ≡ get_or old k 0

-- each record at hand is cut so
abbrev pub AreClearedPast : (ℕ → ℕ → Option (List ℕ)) → FinMap nat_cmp (List ℕ) → Type 0
AreClearedPast records objects = (n r : ℕ) (payload : List ℕ) → records n r ≡ Some payload → IsClearedPast (object_bytes objects n) r payload

-- and is that of its object
abbrev pub AreExact : (ℕ → ℕ → Option (List ℕ)) → FinMap nat_cmp (List ℕ) → Type 0
AreExact records objects = (n r : ℕ) (payload : List ℕ) → records n r ≡ Some payload → payload ≡ object_record objects n r

-- one record more is at hand, or another one in its place
pub record PutsRecord (n r : ℕ) (put : List ℕ) (old new : ℕ → ℕ → Option (List ℕ)) : Type 0 where
  pub here : new n r ≡ Some put
  pub others : (m s : ℕ) (payload : List ℕ) → new m s ≡ Some payload → ((m ≡ n) × (s ≡ r) × (payload ≡ put)) ⊎ (old m s ≡ Some payload)
  pub kept : (m s : ℕ) → is_some (old m s) ≡ true → is_some (new m s) ≡ true

-- The image holds a tree of these objects in which the record has this pointer.
pub record HoldsRecord (image : List ℕ) (frame : Frame) (objects : FinMap nat_cmp (List ℕ)) (place : RecordPlace) (pointer : Pointer) : Type 0 where
  pub pointers : Place → Pointer
  pub tree : HoldsTree image frame pointers objects
  pub is : pointers (Data (strip_number place.id.0 place.strip) place.index) ≡ pointer

-- the number of a record in its object
abbrev pub number_of_record : RecordPlace → ℕ
number_of_record place = record_of_strip place.strip place.index

-- Bytes of a record of the object below, which the patches hide, or which are its bytes if it is there.
abbrev pub AreBelow : Patches → FinMap nat_cmp (List ℕ) → ℕ → ℕ → List ℕ → Type 0
AreBelow patches below n r bytes = HidesBelow (patches n) (record_size * r + 0) record_size
    ⊎ (is_some (finite.get below n) ≡ true → AreBytesFrom (record_size * r + 0) (object_bytes below n) bytes)

-- the bytes are those of a record, if its object is there
abbrev pub IsObjectRecord : FinMap nat_cmp (List ℕ) → ℕ → ℕ → List ℕ → Type 0
IsObjectRecord objects n r bytes = is_some (finite.get objects n) ≡ true → bytes ≡ object_record objects n r

-- what is refused: a read of a block, or memory
abbrev pub IsPrepareRefusal : PoolError → Type 0
IsPrepareRefusal e = (e ≡ NoMemory) ⊎ IsReadRefusal e

abbrev pub IsPlainRefusal : PoolError → Type 0
IsPlainRefusal e = (e ≡ NoMemory) ⊎ (e ≡ Read)

-- what is at hand stays at hand
abbrev pub KeepsHand : (ℕ → ℕ → Option (List ℕ)) → (ℕ → ℕ → Option (List ℕ)) → Type 0
KeepsHand old new = (m s : ℕ) → is_some (old m s) ≡ true → is_some (new m s) ≡ true

-- The image holds a tree of these objects in which object n has the pointers of a map to the records of its strip j.
pub record HoldsRecords (image : List ℕ) (frame : Frame) (objects : FinMap nat_cmp (List ℕ)) (n j : ℕ) (m : ObjectMap) : Type 0 where
  pub pointers : Place → Pointer
  pub tree : HoldsTree image frame pointers objects
  pub are : (k : ℕ) → k < pointer_count → pointers (Data (strip_number n j) k) ≡ read_record m j k

-- and so of each strip of which these changes write a record
pub record HoldsMap (image : List ℕ) (frame : Frame) (objects : FinMap nat_cmp (List ℕ)) (n : ℕ) (changes : ObjectChanges) (m : ObjectMap) : Type 0 where
  pub pointers : Place → Pointer
  pub tree : HoldsTree image frame pointers objects
  pub are : (j k : ℕ) → j < pointer_count → k < pointer_count → is_strip_dirty changes j ≡ true → pointers (Data (strip_number n j) k) ≡ read_record m j k
