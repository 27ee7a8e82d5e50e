use Rattle.base.specs.declared.range.Mode.TheVariants.{Writer}
use Rattle.base.specs.steps.Refusals.{append_range}
use Rattle.pool_threads.specs.Answers.{state_seen}
use Rattle.pool_threads.proofs.Firsts.{if_err}
use Rattle.pool_threads_clients.proofs.OwnWays.{busy_by_own}
use Rattle.pool_threads_clients.proofs.in_time.so_is_an_append_lock.Goals as goal

pub returns : goal.returns
returns g c = if_err _ _ c.lock_append.result (busy_by_own (record { 0 = 3 }) (append_range 5 (state_seen c.lock_append.new.self).shown) Writer (state_seen c.lock_append.new.self).shown c.lock_append.result c.lock_append.ensures.busy) (λ e own is. let o = own is in (o.0, o.1, o.2, o.3, o.4))
