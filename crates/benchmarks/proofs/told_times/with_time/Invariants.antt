use Rattle.std.specs.Prelude.{◌∷◌}
use Rattle.benchmarks.proofs.told_times.with_time.Given as goal

abbrev pub ghost-of : goal.ghost-of
ghost-of a = a.x.now.1 ∷ a.x.now.0.now.value
