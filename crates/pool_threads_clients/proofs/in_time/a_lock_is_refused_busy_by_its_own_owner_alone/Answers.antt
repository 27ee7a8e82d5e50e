use Rattle.base.specs.declared.range.Mode.TheVariants.{Writer}
use Rattle.base.specs.steps.Refusals.{object_range}
use Rattle.pool_threads.specs.Answers.{state_seen}
use Rattle.pool_threads.proofs.Firsts.{if_err}
use Rattle.pool_threads_clients.proofs.OwnWays.{busy_by_own}
use Rattle.pool_threads_clients.proofs.in_time.a_lock_is_refused_busy_by_its_own_owner_alone.Goals as goal

pub returns : goal.returns
returns g c = if_err _ _ c.lock.result (busy_by_own (record { 0 = 3 }) (object_range 5 c.args.range.low c.args.range.high) Writer (state_seen c.lock.new.self).shown c.lock.result c.lock.ensures.busy) (λ e own is. let o = own is in (o.0, o.1, o.2, o.3, o.4))
