use Rattle.std.specs.Prelude.{◌++◌}
use Rattle.benchmarks.proofs.told_times.with_times.Given as goal

abbrev pub ghost-of : goal.ghost-of
ghost-of a = a.x.now.1.now.value ++ a.x.now.0.now.value
