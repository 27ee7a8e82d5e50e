use Rattle.std.proofs.Common.{subst}
use Rattle.std.specs.Prelude.{IfSome}
use Rattle.pool_threads.specs.Handles.{IsLastState, owned_of}
use Rattle.running_pools.proofs.alone.close_alone.Goals as goal

pub returns : goal.returns
returns g c = record {
  state = c.unwrap-state.result;
  ends = subst (λ o. IfSome o (IsLastState (owned_of c.args.pool) c.args.last)) c.unwrap-state.ensures c.close_after.ensures.last;
  device_is = c.into_device.ensures;
}
