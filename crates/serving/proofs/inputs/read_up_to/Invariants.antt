use Rattle.std.proofs.Common.{◌≡◌, ◌≤◌, ◌-◌, length, take}
use Rattle.std.specs.Io.KnownBytes.{Consumes}
use Rattle.serving.proofs.inputs.read_up_to.Given as goal

-- so many bytes were read into the front
abbrev pub invariant-loop-at : goal.invariant-loop-at
invariant-loop-at g l = (length l.into ≡ length l.initial.into) × (l.at ≤ length l.into) × Consumes (g.R.Read.remaining l.initial.input) (g.R.Read.remaining l.input) (take l.at l.into)

abbrev pub decreases-loop-at : goal.decreases-loop-at
decreases-loop-at g l = length l.into - l.at
