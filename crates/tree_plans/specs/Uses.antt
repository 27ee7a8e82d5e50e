-- Where the blocks are that a plan makes: each is after a pointer of the new tree.
use Rattle.std.specs.Prelude.{ℕ, ◌≡◌, ◌<◌, ◌⊎◌, List, slice_get, Some, None}
use Rattle.std.specs.Global.{Vec}
use Rattle.base.specs.declared.pointer.Pointer.{Pointer}
use Rattle.base.specs.declared.names.ObjectId.{ObjectId}
use Rattle.base.specs.formats.Limits.{object_count, pointer_count}
use Rattle.base.specs.kept.PlannedTrees.{NewBlock}
use Rattle.tree_blocks.specs.declared.tree.ObjectEntry.{ObjectEntry}
use Rattle.tree_blocks.specs.Pointers.{ObjectPointers, pointer_of_list, pointers_of_entry}
use Rattle.tree_plans.specs.Pointers.{entry_of}
use Rattle.tree_blocks.specs.ReadPointers.{records_among}

-- one of the blocks has this address
abbrev pub IsAmongBlocks : List NewBlock → ℕ → Type 0
IsAmongBlocks blocks address = (i : ℕ) × (b : NewBlock) × (slice_get blocks i ≡ Some b) × (b.address ≡ address)

-- blocks after a step of a plan: those that are new are at this address alone
abbrev pub UsesOnly : List NewBlock → List NewBlock → ℕ → Type 0
UsesOnly old new at = (address : ℕ) → IsAmongBlocks new address → IsAmongBlocks old address ⊎ (at ≡ address)

-- the address is that of one of the first so many pointers
pub record IsPointedAt (pointers : ℕ → Pointer) (count address : ℕ) : Type 0 where
  pub index : ℕ
  pub low : index < count
  pub is : (pointers index).address ≡ address

-- those that are new are after the first so many pointers alone: of records, of indirect blocks, or of directories
abbrev pub PointersUse : List NewBlock → List NewBlock → (ℕ → Pointer) → ℕ → Type 0
PointersUse old new pointers count = (address : ℕ) → IsAmongBlocks new address → IsAmongBlocks old address ⊎ IsPointedAt pointers count address

-- the address is that of a record of one of the first strips
pub record IsInStrips (records : ℕ → ℕ → Pointer) (count address : ℕ) : Type 0 where
  pub strip : ℕ
  pub low : strip < count
  pub is_in : IsPointedAt (records strip) pointer_count address

-- and that of one of those that were placed
pub record IsInPlaced (strips : List (ℕ × Vec Pointer)) (count address : ℕ) : Type 0 where
  pub strip : ℕ
  pub low : strip < count
  pub records : Vec Pointer
  pub records_are : records_among strips strip ≡ Some records
  pub is_in : IsPointedAt (pointer_of_list records.items) pointer_count address

abbrev pub StripsUse : List NewBlock → List NewBlock → List (ℕ × Vec Pointer) → ℕ → Type 0
StripsUse old new strips count = (address : ℕ) → IsAmongBlocks new address → IsAmongBlocks old address ⊎ IsInPlaced strips count address

-- the address is that of a record of an object, of one of its indirect blocks, or of its top
abbrev pub IsInObject : ObjectPointers → ℕ → Type 0
IsInObject o address = IsInStrips o.record_at pointer_count address ⊎ (IsPointedAt o.strip pointer_count address ⊎ (o.top.address ≡ address))

-- those that are new are of this object alone
abbrev pub ObjectUses : List NewBlock → List NewBlock → ObjectPointers → Type 0
ObjectUses old new o = (address : ℕ) → IsAmongBlocks new address → IsAmongBlocks old address ⊎ IsInObject o address

-- the address is that of a block of an object that is planned
pub record IsInPlanned (planned : List (ObjectId × ObjectEntry)) (address : ℕ) : Type 0 where
  pub number : ℕ
  pub low : number < object_count
  pub entry : ObjectEntry
  pub entry_is : entry_of planned number ≡ Some entry
  pub is_in : IsInObject (pointers_of_entry entry) address

-- those that are new are of the planned objects alone
abbrev pub ObjectsUse : List NewBlock → List NewBlock → List (ObjectId × ObjectEntry) → Type 0
ObjectsUse old new planned = (address : ℕ) → IsAmongBlocks new address → IsAmongBlocks old address ⊎ IsInPlanned planned address

-- only objects that were gone over are planned
abbrev pub AreOf : {X Y : Type 0} → List (ObjectId × X) → List (ObjectId × Y) → Type 0
AreOf done planned = (n : ℕ) → entry_of done n ≡ None → entry_of planned n ≡ None
