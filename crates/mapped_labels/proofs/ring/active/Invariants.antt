use Rattle.mapped_labels.proofs.MappedChosen.{IsBestBelow}
use Rattle.mapped_labels.proofs.ring.active.Given as goal

-- the best so far is that of the positions that were looked at
abbrev pub invariant-loop-count : goal.invariant-loop-count
invariant-loop-count l = IsBestBelow l.ring l.count l.best
