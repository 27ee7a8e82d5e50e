-- The name of a pool by what leads to its objects.
use Rattle.std.specs.Prelude.{ℕ, if◌then◌else◌, List, [], ◌∷◌, nat_lt}
use Rattle.std.specs.List.{flat_map}
use Rattle.base.specs.declared.operation.Op.{Op}
use Rattle.base.specs.declared.operation.Op.TheVariants.{Create, Remove, SetLength, SetName, Write}
use Rattle.base.specs.formats.Names.{is_name}
use Rattle.base.specs.tree.Mount.{Placed}
use Rattle.records.specs.declared.record.Record.{Record}
use Rattle.object_views.specs.Listings.{records_of}
use Rattle.object_views.specs.declared.paths.PoolPaths.{PoolPaths}

-- the name after an operation: the one that it gives, if a pool may have that
abbrev pub name_by : Op → List ℕ → List ℕ
name_by (Create n) name = name
name_by (Remove n) name = name
name_by (Write n offset bytes) name = name
name_by (SetLength n size) name = name
name_by (SetName bytes) name = if is_name bytes then bytes else name

-- and after operations in order
abbrev pub name_after : List Op → List ℕ → List ℕ
name_after [] name = name
name_after (op ∷ ops) name = name_after ops (name_by op name)

-- the operations of records in order, and those of a record, if it is of a group above this one
abbrev pub ops_in : List Placed → List Op
ops_in records = flat_map (λ (p : Placed). p.logged.ops) records

abbrev pub ops_above : ℕ → Record → List Op
ops_above group r = if nat_lt group r.group.0 then r.ops else []

-- the name of the labels, or the last one that the log gives which an import would apply
abbrev pub name_of : PoolPaths → List ℕ
name_of p = name_after (ops_in (records_of p)) p.found.name
