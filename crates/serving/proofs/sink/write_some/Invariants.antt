use Rattle.std.specs.Io.KnownBytes.{Keeps}
use Rattle.serving.proofs.sink.write_some.Given as goal

-- a write that failed appended nothing
abbrev pub invariant-loop : goal.invariant-loop
invariant-loop g l = Keeps (g.O.Write.contents l.initial.output) (g.O.Write.contents l.output)
