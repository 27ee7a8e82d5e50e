-- The operations that are judged and applied.
use Rattle.std.specs.Prelude.{◌≡◌, true, false, List, All}
use Rattle.base.specs.declared.operation.Op.{Op}
use Rattle.base.specs.history.Plans.{shape_of, is_shape_allowed}
use Rattle.base.specs.steps.Refusals.{gives_bad_name}

-- an operation is within the limits, and a name that it gives is one
abbrev pub IsOpAllowed : Op → Type 0
IsOpAllowed op = (gives_bad_name op ≡ false) × (is_shape_allowed (shape_of op) ≡ true)

abbrev pub AreOpsAllowed : List Op → Type 0
AreOpsAllowed ops = All IsOpAllowed ops
