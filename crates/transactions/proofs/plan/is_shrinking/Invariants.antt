use Rattle.std.proofs.Common.{◌≡◌, take, true}
use Rattle.std.specs.List.{list_all}
use Rattle.base.specs.history.Contents.{Contents}
use Rattle.base.specs.history.Plans.{is_shape_shrinking}
use Rattle.transactions.specs.Lengths.{TellsLengths}
use Rattle.transactions.proofs.plan.is_shrinking.Given as goal

-- each shape so far shrinks
abbrev pub invariant-loop-shape : goal.invariant-loop-shape
invariant-loop-shape g l = (c : Contents) → TellsLengths (goal.F-post g l.lengths) c → list_all (is_shape_shrinking c) (take l.shape-index l.plan) ≡ true
