-- The operations of a plan with the bytes that a script gives for its writes and names, in order.
use Rattle.std.specs.Prelude.{ℕ, Option, Some, None, List, [], ◌∷◌, drop, option_and_then}
use Rattle.std.specs.Option.{option_map}
use Rattle.base.specs.declared.operation.Op.{Op}
use Rattle.base.specs.declared.operation.Op.TheVariants as op
use Rattle.base.specs.declared.operation.Shape.{Shape}
use Rattle.base.specs.declared.operation.Shape.TheVariants.{Create, Remove, Write, SetLength, SetName}

-- the operation of a shape, which takes the first of these bytes if it writes or names
abbrev pub op_of : Shape → List (List ℕ) → Option Op
op_of (Create n) contents = Some (op.Create n)
op_of (Remove n) contents = Some (op.Remove n)
op_of (Write n offset count) [] = None
op_of (Write n offset count) (bytes ∷ rest) = Some (op.Write n offset bytes)
op_of (SetLength n new) contents = Some (op.SetLength n new)
op_of (SetName count) [] = None
op_of (SetName count) (bytes ∷ rest) = Some (op.SetName bytes)

-- how many of them it takes
abbrev pub taken_by : Shape → ℕ
taken_by (Create n) = 0
taken_by (Remove n) = 0
taken_by (Write n offset count) = 1
taken_by (SetLength n new) = 0
taken_by (SetName count) = 1

-- the operations of all shapes, where there are exactly as many bytes as they take
abbrev pub ops_of : List Shape → List (List ℕ) → Option (List Op)
ops_of [] [] = Some []
ops_of [] (bytes ∷ rest) = None
ops_of (shape ∷ shapes) contents = option_and_then (λ first. option_map (λ ops. first ∷ ops) (ops_of shapes (drop (taken_by shape) contents))) (op_of shape contents)
