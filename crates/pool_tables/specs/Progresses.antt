-- What a step of a sync answers, as definitions speak of it.
use Rattle.base.specs.steps.Steps as steps
use Rattle.base.specs.steps.Steps.SyncProgress.{More as more, Synced as synced}
use Rattle.pool_tables.specs.declared.pool.Progress.{Progress}
use Rattle.pool_tables.specs.declared.pool.Progress.TheVariants.{More, Synced}

abbrev pub plain_progress : Progress → steps.SyncProgress
plain_progress More = more
plain_progress (Synced group) = synced group.0
