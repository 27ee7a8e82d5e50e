-- The forms of payloads: of a directory, of an indirect block, of a top.
use Rattle.std.specs.Prelude.{ℕ, ◌≡◌, ◌<◌, ◌≤◌, ◌⊎◌, List, length}
use Rattle.base.specs.formats.Blocks.{Frame}
use Rattle.base.specs.formats.Fields.{entry_in, pointer_in}
use Rattle.base.specs.formats.Limits.{entry_count, max_length, one_level_length, payload_size, pointer_count}
use Rattle.base.specs.tree.Damages.{IsEntryForm, IsRecordPointerForm}
use Rattle.base.specs.tree.Places.{record_start, strip_start}
use Rattle.tree_blocks.specs.declared.forms.Entry.{Entry}

-- the payload of a directory has the size of one, and each of its entries is absent and all zeros, or present and
-- within its limits
pub record IsEntryPayload (frame : Frame) (payload : List ℕ) : Type 0 where
  pub size : length payload ≡ payload_size
  pub each : (k : ℕ) → k < entry_count → IsEntryForm frame (entry_in payload k)

-- the pointers in the indirect block of strip m, of an object of so many bytes: from its end on there are none
abbrev pub AreRecordForms : ℕ → ℕ → List ℕ → Type 0
AreRecordForms m size payload = (k : ℕ) → k < pointer_count → IsRecordPointerForm size (record_start m k) (pointer_in payload k)

-- and those in a top
abbrev pub AreStripForms : ℕ → List ℕ → Type 0
AreStripForms size payload = (j : ℕ) → j < pointer_count → IsRecordPointerForm size (strip_start j) (pointer_in payload j)

-- the entry of an object that is there says its levels and its length
abbrev pub IsEntryOf : Frame → Entry → Type 0
IsEntryOf frame entry = ((entry.present ≡ 1) × (entry.length ≤ one_level_length))
    ⊎ ((1 < frame.version) × (entry.present ≡ 2) × (one_level_length < entry.length) × (entry.length ≤ max_length))
