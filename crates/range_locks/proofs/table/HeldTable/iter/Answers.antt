use Rattle.std.proofs.Common.{arith}
use Rattle.std.specs.Map.Iter.{deref_pair}
use Rattle.std_collections.proofs.IterRuns.{shows_in_order}
use Rattle.range_locks.proofs.Places.{length-held_in}
use Rattle.range_locks.proofs.table.HeldTable.iter.Goals as goal

pub returns-clause-fits : goal.returns-clause-fits
returns-clause-fits c = rw c.iter.ensures.rest (let fewer = length-held_in c.self.inside.places.entries in let fits = c.iter.ensures.fits in omega arith)

pub returns-clause-runs : goal.returns-clause-runs
returns-clause-runs c = shows_in_order deref_pair
