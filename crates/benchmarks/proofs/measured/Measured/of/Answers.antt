use Rattle.std.proofs.Common.{rules}
use Rattle.benchmarks.proofs.measured.Measured.of.Goals as goal

pub returns-clause-some : goal.returns-clause-some
returns-clause-some c = record { times = c.args.times.now; measured = search rules }
