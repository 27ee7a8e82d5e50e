use Rattle.std.specs.Prelude.{[]}
use Rattle.benchmarks.proofs.told_times.no_times.Given as goal

abbrev pub ghost-of : goal.ghost-of
ghost-of a = []
