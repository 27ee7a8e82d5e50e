use Rattle.range_locks.proofs.NumberParts.{no_ends}
use Rattle.range_locks.proofs.StoredParts.{nothing_before}
use Rattle.range_locks.proofs.numbers.Numbers.part_at.Goals as goal

pub returns-in-None : goal.returns-in-None
returns-in-None c = λ f is still. nothing_before f still c.args.at (λ x within. no_ends _ c.in-None.ensures.value f is x)
