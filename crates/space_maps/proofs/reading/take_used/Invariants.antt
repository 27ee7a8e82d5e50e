use Rattle.space_maps.specs.Regions.{TakesUsed}
use Rattle.space_maps.proofs.reading.take_used.Given as goal

abbrev pub invariant-loop-k : goal.invariant-loop-k
invariant-loop-k l = TakesUsed l.first l.k l.payload l.fn.free l.free
