use Rattle.std.proofs.Common.{inl, inr}
use Rattle.pool_threads.specs.Handles.{shared_of}
use Rattle.running_pools.proofs.LeftDevices.{closed_still}
use Rattle.commands.specs.Committed.{default_dirty_max}
use Rattle.commands.proofs.named_removals.remove_named.Goals as goal

pub returns-then-not-is_object_name-clause-still_held : goal.returns-then-not-is_object_name-clause-still_held
returns-then-not-is_object_name-clause-still_held g c = λ keeps. inl (λ past was. was)

pub returns-in-Ok-end-clause-removed : goal.returns-in-Ok-end-clause-removed
returns-in-Ok-end-clause-removed g c = record { pool = shared_of c.in-Ok.pool; opens = c.in-Ok.ensures.opened; does = c.in-Ok-end.ensures }

pub returns-in-Ok-end-clause-still_held : goal.returns-in-Ok-end-clause-still_held
returns-in-Ok-end-clause-still_held g c = closed_still (shared_of c.in-Ok.pool) c.args.device default_dirty_max c.in-Ok.ensures.opened c.close-device.result c.close-device.ensures

pub returns-in-Err-end-clause-removed : goal.returns-in-Err-end-clause-removed
returns-in-Err-end-clause-removed g c = inr (inr (c.in-Err-end.refusal, record { pool = shared_of c.in-Ok.pool; opens = c.in-Ok.ensures.opened; does = c.in-Err-end.ensures }, c.failure_of.ensures))

pub returns-in-Err-end-clause-still_held : goal.returns-in-Err-end-clause-still_held
returns-in-Err-end-clause-still_held g c = closed_still (shared_of c.in-Ok.pool) c.args.device default_dirty_max c.in-Ok.ensures.opened c.close-device.result c.close-device.ensures
