use Rattle.std.proofs.Common.{subst}
use Rattle.std.specs.Prelude.{Ok, Result}
use Rattle.base.specs.declared.error.PoolError.{PoolError}
use Rattle.base.specs.declared.names.Receipt.{Receipt}
use Rattle.pool_threads.proofs.TransactsDurably.{durably_durable, durably_entered}
use Rattle.pool_threads.specs.Transacts.{TransactsOrLacks}
use Rattle.pool_threads.proofs.handle.Handle.transact_durably.Goals as goal

pub returns-in-Ok-wait_for_flush-clause-made : goal.returns-in-Ok-wait_for_flush-clause-made
returns-in-Ok-wait_for_flush-clause-made g c = record {
  done = c.transact.new.self;
  transacts = subst (λ (x : Result Receipt PoolError). TransactsOrLacks c.args.owner c.args.ops x c.args.self.now c.transact.new.self) c.in-Ok.is c.transact.ensures.made;
  released = c.transact.ensures.released;
  waits = c.in-Ok-wait_for_flush.ensures;
}

pub returns-in-Ok-wait_for_flush-clause-committed : goal.returns-in-Ok-wait_for_flush-clause-committed
returns-in-Ok-wait_for_flush-clause-committed g c = durably_entered c.args.owner c.args.ops (Ok c.in-Ok.receipt) c.args.self.now c.wait_for_flush.new.self (returns-in-Ok-wait_for_flush-clause-made g c)

pub returns-in-Ok-wait_for_flush-clause-durable : goal.returns-in-Ok-wait_for_flush-clause-durable
returns-in-Ok-wait_for_flush-clause-durable g c = durably_durable c.args.owner c.args.ops (Ok c.in-Ok.receipt) c.args.self.now c.wait_for_flush.new.self (returns-in-Ok-wait_for_flush-clause-made g c)
