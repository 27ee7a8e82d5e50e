-- When the block at a place is sound: it is the one that its pointer names, and what it holds is well formed.
use Rattle.std.specs.Prelude.{ℕ, ◌≡◌, ◌<◌, ◌-◌, List, drop, replicate}
use Rattle.base.specs.declared.error.PoolError.{PoolError}
use Rattle.base.specs.declared.error.PoolError.TheVariants.{Damaged}
use Rattle.base.specs.declared.pointer.Pointer.{Pointer}
use Rattle.base.specs.formats.Blocks.{Frame}
use Rattle.base.specs.formats.Fields.{entry_in, pointer_in}
use Rattle.base.specs.formats.Limits.{entry_count, pointer_count, record_size}
use Rattle.base.specs.tree.Damages.{IsEntryForm, IsPointerForm, length_in}
use Rattle.base.specs.tree.Places.{Place, kind_of, object_of_indirect, record_start}
use Rattle.base.specs.tree.Places.Place.{Root, Directory, Top, Indirect, Data}
use Rattle.base.specs.tree.Tree.{OpensAt}
use Rattle.tree_blocks.specs.Forms.{AreRecordForms, AreStripForms}

-- the length of the object that a place is of; the root and a directory are of none
abbrev pub length_at : List ℕ → Pointer → Place → ℕ
length_at image root Root = 0
length_at image root (Directory d) = 0
length_at image root (Top n) = length_in image root n
length_at image root (Indirect m) = length_in image root (object_of_indirect m)
length_at image root (Data m k) = length_in image root (object_of_indirect m)

-- what the block at a place holds is well formed, in an object of this length
abbrev pub IsFormed : Frame → ℕ → Place → List ℕ → Type 0
IsFormed frame size Root payload = (d : ℕ) → d < pointer_count → IsPointerForm (pointer_in payload d)
IsFormed frame size (Directory d) payload = (k : ℕ) → k < entry_count → IsEntryForm frame (entry_in payload k)
IsFormed frame size (Top n) payload = AreStripForms size payload
IsFormed frame size (Indirect m) payload = AreRecordForms m size payload
IsFormed frame size (Data m k) payload = let past = size - record_start m k in drop past payload ≡ replicate (record_size - past) 0

-- a Damaged tells the block that a pointer names, and no sound one is there
abbrev pub TellsUnsound : List ℕ → Frame → ℕ → Place → Pointer → PoolError → Type 0
TellsUnsound image frame size place pointer e = (kind address : ℕ) → e ≡ Damaged kind address
    → (kind_of place ≡ kind) × ((pointer.address ≡ address) × ((payload : List ℕ) → OpensAt image frame place pointer payload → IsFormed frame size place payload → ⊥))
