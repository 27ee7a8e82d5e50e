use Rattle.std.proofs.Common.{◌+◌}
use Rattle.throttle.proofs.ThreeSums.{sums_from-none}
use Rattle.throttle.proofs.dirty.Dirty.new.Goals as goal

pub returns : goal.returns
returns c = λ k. record { limit = c.args.limit; synced = c.args.synced.0; sums = sums_from-none (c.args.synced.0 + 1) k }
