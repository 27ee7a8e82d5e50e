-- The records of a chain that an import applies: what they are estimated at, and their operations.
use Rattle.std.specs.Prelude.{ℕ, List, map, sum_by}
use Rattle.std.specs.List.{flat_map}
use Rattle.base.specs.tree.Mount.{Placed}
use Rattle.base.specs.declared.operation.Op.{Op}
use Rattle.base.specs.history.Plans.{shape_of, estimate_of}

-- what the operations of records are estimated at, and these operations in order
abbrev pub placed_estimate : List Placed → ℕ
placed_estimate records = sum_by (λ (p : Placed). estimate_of (map shape_of p.logged.ops)) records

abbrev pub ops_of_placed : List Placed → List Op
ops_of_placed records = flat_map (λ (p : Placed). p.logged.ops) records
