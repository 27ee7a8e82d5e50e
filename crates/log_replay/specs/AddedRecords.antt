-- What the records of a chain change of contents: piece by piece, up to the first that can't take place.
use Rattle.std.specs.Prelude.{ℕ, ◌≡◌, List, length, min, Result, Ok, Err}
use Rattle.base.specs.tree.Mount.{Placed, apply_records}
use Rattle.base.specs.declared.error.PoolError.{PoolError}
use Rattle.base.specs.history.Contents.{Contents}
use Rattle.extents.specs.declared.extents.Extents.{Extents}
use Rattle.extents.specs.Synced.{patched_contents}
use Rattle.extents.specs.Tables.{name_of, patches_of}
use Rattle.log_replay.specs.Replays.{IsReplayRefusal}

-- the contents with these changes
abbrev pub with_changes : Extents → Contents → Contents
with_changes e synced = patched_contents (patches_of e) (name_of e) synced

-- a count that ends at the greatest number of 64 bits
abbrev pub counted_up_to_last : ℕ → ℕ
counted_up_to_last n = min n 18446744073709551615

-- If so many records take place in order on some contents, they lead to those with these changes. Else there is no
-- memory, or the piece of the first that can't is damaged.
abbrev pub LeadsTo : Contents → Contents → List Placed → Result ℕ PoolError → Extents → Type 0
LeadsTo before synced records (Ok n) changes = (n ≡ counted_up_to_last (length records)) × (apply_records records before ≡ Ok (with_changes changes synced))
LeadsTo before synced records (Err e) changes = IsReplayRefusal records before e

-- so they do from the contents with the old changes
abbrev pub AddsRecords : Contents → List Placed → Extents → Result ℕ PoolError → Extents → Type 0
AddsRecords synced records old r new = LeadsTo (with_changes old synced) synced records r new

-- so many records take place in order on the contents, and these are their changes
abbrev pub AreChangesOf : List Placed → Contents → Extents × ℕ → Type 0
AreChangesOf records synced r = LeadsTo synced synced records (Ok r.1) r.0
