use Rattle.pool_core.specs.NewStates.{first_past}
use Rattle.pool_core.specs.States.{shown}
use Rattle.pool_threads.specs.Views.{view_of}
use Rattle.pool_threads.specs.Views.CrashRule.{NotFollowed}
use Rattle.pool_threads.proofs.pool.Pool.share.Given as goal

-- a past in which nothing happened
abbrev pub ghost-new : goal.ghost-new
ghost-new g a = view_of a.state (first_past (shown a.state) 0) NotFollowed
