-- The maps of objects before a group, as they are read from their tops and from the indirect blocks of their strips.
use Rattle.std.specs.Prelude.{ℕ, ◌≡◌, ◌<◌, ◌⊎◌, Bool, true, List, Option, Some, IfSome, is_some, unwrap_or}
use Rattle.std.specs.Global.{Vec}
use Rattle.std.specs.Ordering.{nat_cmp}
use Rattle.std.specs.FinMap as finite
use Rattle.std.specs.FinMap.{FinMap}
use Rattle.base.specs.declared.names.ObjectId.{ObjectId}
use Rattle.base.specs.declared.pointer.Pointer.{Pointer}
use Rattle.base.specs.formats.Blocks.{Frame}
use Rattle.base.specs.formats.Fields.{no_pointer}
use Rattle.base.specs.formats.Limits.{object_count, pointer_count}
use Rattle.base.specs.kept.PlacedTrees.{HoldsTree, IsPlaced}
use Rattle.base.specs.tree.Places.{Place, record_start, strip_number}
use Rattle.base.specs.tree.Places.Place.{Indirect, Data}
use Rattle.tree_blocks.specs.declared.tree.Tree.{Tree}
use Rattle.object_maps.specs.Cached.{BeginsInside}
use Rattle.tree_blocks.specs.Pointers.{object_pointers, pointer_of_list, pointers_of}
use Rattle.tree_blocks.specs.Sources.{object_length}
use Rattle.tree_blocks.specs.TreeObjects.{objects_of}
use Rattle.tree_plans.specs.declared.changes.ObjectChanges.{ObjectChanges}
use Rattle.tree_blocks.specs.declared.object_map.ObjectMap.{ObjectMap}
use Rattle.tree_plans.specs.Changes.{has_two_levels}
use Rattle.tree_plans.specs.Parts.{IsReadAsNeeded}
use Rattle.tree_plans.specs.Plans.{is_strip_replaced}
use Rattle.tree_plans.specs.Pointers.{entry_of}
use Rattle.tree_blocks.specs.ReadPointers.{records_among}
use Rattle.group_plans.specs.declared.old_maps.OldObject.{OldObject}

-- the image holds a tree in memory with its objects
abbrev pub HoldsOwn : List ℕ → Frame → Tree → Type 0
HoldsOwn image frame tree = HoldsTree image frame (pointers_of tree) (objects_of tree)

-- the length of an object in bytes, 0 if it is absent
abbrev pub size_in : FinMap nat_cmp (List ℕ) → ℕ → ℕ
size_in objects n = unwrap_or (object_length objects n) 0

-- the pointers to the records of strip m of an object of this length: each is to a block of the area, and to a record
-- that begins before the end of the object
pub record AreMapRecords (blocks size m : ℕ) (records : List Pointer) : Type 0 where
  pub placed : (k : ℕ) → k < pointer_count → IsPlaced blocks (pointer_of_list records k)
  pub inside : (k : ℕ) → k < pointer_count → BeginsInside size (record_start m k) (pointer_of_list records k)

-- the pointer to a strip's indirect block is the one that the tree has in memory, or is to a block of the area
abbrev pub IsStripOf : ℕ → Tree → ℕ → ℕ → Pointer → Type 0
IsStripOf blocks tree n j pointer = (pointer ≡ (object_pointers tree.entries.items n).strip j) ⊎ IsPlaced blocks pointer

abbrev pub AreMapStrips : ℕ → Tree → ℕ → List Pointer → Type 0
AreMapStrips blocks tree n indirects = (j : ℕ) → j < pointer_count → IsStripOf blocks tree n j (pointer_of_list indirects j)

-- the map of object n of a tree, of so many bytes: it has the top that the tree has, and pointers to its indirect
-- blocks and to the records of the strips that were read
pub record IsMapBefore (blocks : ℕ) (tree : Tree) (size n : ℕ) (m : ObjectMap) : Type 0 where
  pub low : n < object_count
  pub top : m.top ≡ (object_pointers tree.entries.items n).top
  pub strips : AreMapStrips blocks tree n m.indirects.items
  pub records : (j : ℕ) → j < pointer_count → IfSome (records_among m.strips.entries j) (λ (v : Vec Pointer). AreMapRecords blocks size (strip_number n j) v.items)

-- each of these maps is one of the tree
abbrev pub AreMapsOf : ℕ → Tree → FinMap nat_cmp (List ℕ) → List (ObjectId × ObjectMap) → Type 0
AreMapsOf blocks tree objects maps = (n : ℕ) (m : ObjectMap) → entry_of maps n ≡ Some m → IsMapBefore blocks tree (size_in objects n) n m

-- What was read of strip j of an object, whose indirect block has this pointer: its records if a plan looks at it and
-- it has such a block, and otherwise nothing.
pub record IsStripRead (blocks : ℕ) (object : OldObject) (j : ℕ) (indirect : Pointer) (o : Option (Vec Pointer)) : Type 0 where
  pub there : is_strip_replaced object.is_long object.changes.now j ≡ true → (is_some o ≡ true) ⊎ (indirect ≡ no_pointer)
  pub only : is_some o ≡ true → is_strip_replaced object.is_long object.changes.now j ≡ true
  pub records : IfSome o (λ (v : Vec Pointer). AreMapRecords blocks object.size (strip_number object.id.0 j) v.items)

-- and so of the first strips, and nothing of the others
pub record AreStripsRead (blocks : ℕ) (object : OldObject) (count : ℕ) (indirects : List Pointer) (strips : List (ℕ × Vec Pointer)) : Type 0 where
  pub each : (j : ℕ) → j < count → IsStripRead blocks object j (pointer_of_list indirects j) (records_among strips j)
  pub below : (j : ℕ) → is_some (records_among strips j) ≡ true → j < count

-- these are the pointers in the indirect block of strip m, if it was read
abbrev pub AreRecordsAt : (Place → Pointer) → ℕ → Option (Vec Pointer) → Type 0
AreRecordsAt pointers m o = IfSome o (λ (v : Vec Pointer). (k : ℕ) → k < pointer_count → pointer_of_list v.items k ≡ pointers (Data m k))

-- the image holds a tree with these pointers, in which an object has its size, and these indirect blocks
pub record HoldsStripsOf (image : List ℕ) (frame : Frame) (object : OldObject) (indirects : List Pointer) (pointers : Place → Pointer) : Type 0 where
  pub objects : FinMap nat_cmp (List ℕ)
  pub tree : HoldsTree image frame pointers objects
  pub size : object.size ≡ size_in objects object.id.0
  pub strips : (j : ℕ) → j < pointer_count → pointer_of_list indirects j ≡ pointers (Indirect (strip_number object.id.0 j))

-- The indirect blocks were read that a plan looks at, and no others: those of strips of which a record changes, and all
-- if the object has one level after the group.
pub record IsReadFor (is_long : Bool) (changes : ObjectChanges) (m : ObjectMap) : Type 0 where
  pub read : IsReadAsNeeded is_long changes m
  pub only : (j : ℕ) → is_some (records_among m.strips.entries j) ≡ true → is_strip_replaced is_long changes j ≡ true

-- a map was read of each of these objects that has a place in the tree, if these are the objects after the group
pub record HasReadMap (after : FinMap nat_cmp (List ℕ)) (maps : List (ObjectId × ObjectMap)) (n : ℕ) (changes : ObjectChanges) : Type 0 where
  pub map : ObjectMap
  pub map_is : entry_of maps n ≡ Some map
  pub read : IsReadFor (has_two_levels (finite.get after n)) changes map

abbrev pub AreMapsReadFor : FinMap nat_cmp (List ℕ) → List (ObjectId × ObjectChanges) → List (ObjectId × ObjectMap) → Type 0
AreMapsReadFor after objects maps = (n : ℕ) (changes : ObjectChanges) → n < object_count → entry_of objects n ≡ Some changes → HasReadMap after maps n changes

-- the pointers of a map are these, so far as they were read
pub record ArePointersOf (pointers : Place → Pointer) (n : ℕ) (m : ObjectMap) : Type 0 where
  pub strips : (j : ℕ) → j < pointer_count → pointer_of_list m.indirects.items j ≡ pointers (Indirect (strip_number n j))
  pub records : (j : ℕ) → j < pointer_count → AreRecordsAt pointers (strip_number n j) (records_among m.strips.entries j)

-- each of these maps has the pointers of its object
abbrev pub AreMapsOfObjects : (Place → Pointer) → List (ObjectId × ObjectMap) → Type 0
AreMapsOfObjects pointers maps = (n : ℕ) (m : ObjectMap) → entry_of maps n ≡ Some m → ArePointersOf pointers n m
