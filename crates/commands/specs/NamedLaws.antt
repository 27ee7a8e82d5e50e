-- What the transactions of puts and removals by name leave, whatever contents they are applied to.
use Rattle.std.specs.Prelude.{ℕ, ◌≡◌, ◌≢◌, ◌<◌, [], List, None, Ok, Some, is_some}
use Rattle.std.specs.FinMap as finite
use Rattle.base.specs.declared.names.ObjectId.{ObjectId}
use Rattle.base.specs.formats.Limits.{object_count}
use Rattle.base.specs.history.Contents.{Contents}
use Rattle.base.specs.history.History.{apply_all}
use Rattle.commands.specs.Puts.{overwritten}
use Rattle.commands.specs.NamedOps.{naming_ops, removal_ops}
use Rattle.object_names.specs.Laws.{IsRenamed, IsUnused}
use Rattle.object_names.specs.NameTables.{IsNameTable}
use Rattle.object_names.specs.Names.{IsName}
use Rattle.tree_blocks.specs.Sources.{object_bytes}

-- each object is as it was, but for object 0 and this one
abbrev pub LeavesOthers : ℕ → Contents → Contents → Type 0
LeavesOthers n before after = (other : ℕ) → other ≢ 0 → other ≢ n → finite.get after.objects other ≡ finite.get before.objects other

-- The object was made with these bytes, and has the name, which no object had.
pub record IsNamedNew (n : ℕ) (name bytes : List ℕ) (before after : Contents) : Type 0 where
  pub renamed : IsRenamed (object_bytes before.objects 0) n name (object_bytes after.objects 0)
  pub was_absent : finite.get before.objects n ≡ None
  pub bytes_are : finite.get after.objects n ≡ Some bytes
  pub others : LeavesOthers n before after

-- the transaction that makes an object with a name, of a table without it, leaves it so
abbrev pub NewNamesAreWritten : Type 0
NewNamesAreWritten = (n : ObjectId) (name : List ℕ) (at : ℕ) (piece : List ℕ) (before after : Contents) → 0 < n.0 → n.0 < object_count → IsName name
    → IsNameTable (object_bytes before.objects 0) → IsUnused (object_bytes before.objects 0) n.0 name
    → apply_all (naming_ops (is_some (finite.get before.objects 0)) (object_bytes before.objects 0) n name at piece) before ≡ Ok after
    → IsNamedNew n.0 name (overwritten at piece []) before after

-- The object is gone, and has no name.
pub record IsUnnamed (n : ℕ) (before after : Contents) : Type 0 where
  pub renamed : IsRenamed (object_bytes before.objects 0) n [] (object_bytes after.objects 0)
  pub gone : finite.get after.objects n ≡ None
  pub others : LeavesOthers n before after

-- the transaction that removes an object, if it is there, and its name, leaves it so
abbrev pub RemovedNamesAreGone : Type 0
RemovedNamesAreGone = (n : ObjectId) (before after : Contents) → 0 < n.0 → n.0 < object_count
    → IsNameTable (object_bytes before.objects 0) → object_bytes before.objects 0 ≢ []
    → apply_all (removal_ops (is_some (finite.get before.objects n.0)) n) before ≡ Ok after → IsUnnamed n.0 before after
