use Rattle.std.proofs.Common.{◌≡◌, length}
use Rattle.std.specs.Io.KnownBytes.{Keeps}
use Rattle.serving.proofs.inputs.read_some.Given as goal

-- a read that failed consumed nothing
abbrev pub invariant-loop : goal.invariant-loop
invariant-loop g l = (length l.into ≡ length l.initial.into) × Keeps (g.R.Read.remaining l.initial.input) (g.R.Read.remaining l.input)
