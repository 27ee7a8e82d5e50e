-- the best of the labels so far
use Rattle.std.specs.Option.{option_copied}
use Rattle.labels.proofs.BestConfigs.{BestAmong}
use Rattle.labels.proofs.choice.choose.Given as goal

abbrev pub invariant-loop-config : goal.invariant-loop-config
invariant-loop-config l = BestAmong l.configs l.guid l.group.0 l.config-index (option_copied l.best)
