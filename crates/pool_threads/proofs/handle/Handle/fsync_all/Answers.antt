use Rattle.std.proofs.Common.{refl, subst, sym}
use Rattle.std.specs.Prelude.{Err, Ok}
use Rattle.pool_threads.specs.Waits.{EndsFsync}
use Rattle.pool_threads.proofs.FsyncedAll.{all_are_durable, never_for_space, refusal_of_all}
use Rattle.pool_threads.proofs.handle.Handle.fsync_all.Goals as goal

pub returns-in-Some-clause-made : goal.returns-in-Some-clause-made
returns-in-Some-clause-made g c = record {
  reply = c.serve-reply.result.0;
  wrote = c.serve-reply.new.self;
  writes = c.serve-reply.ensures.served;
  outcome = c.log_outcome.result;
  is_outcome = c.log_outcome.ensures;
  ends = subst (λ o. EndsFsync o c.in-Some.ended c.serve-reply.new.self c.serve-reply.new.self) (sym c.in-Some.is) (refl, refl);
}

pub returns-in-Some-clause-durable : goal.returns-in-Some-clause-durable
returns-in-Some-clause-durable g c = all_are_durable c.args.self.now c.serve-reply.new.self c.serve-reply.new.self c.serve-reply.result.0 c.serve-reply.ensures.served c.serve-reply.ensures.explained c.in-Some.ended c.log_outcome.result c.log_outcome.ensures (subst (λ o. EndsFsync o c.in-Some.ended c.serve-reply.new.self c.serve-reply.new.self) (sym c.in-Some.is) (refl, refl))

pub returns-in-Some-clause-refused : goal.returns-in-Some-clause-refused
returns-in-Some-clause-refused g c = refusal_of_all c.args.self.now c.serve-reply.new.self c.serve-reply.new.self c.serve-reply.result.0 c.serve-reply.ensures.served c.in-Some.ended c.log_outcome.result c.log_outcome.ensures (subst (λ o. EndsFsync o c.in-Some.ended c.serve-reply.new.self c.serve-reply.new.self) (sym c.in-Some.is) (refl, refl))

pub returns-in-Some-clause-not_log_space : goal.returns-in-Some-clause-not_log_space
returns-in-Some-clause-not_log_space g c = never_for_space c.args.self.now c.serve-reply.new.self c.serve-reply.new.self c.serve-reply.result.0 c.serve-reply.ensures.served c.in-Some.ended c.log_outcome.result c.log_outcome.ensures (subst (λ o. EndsFsync o c.in-Some.ended c.serve-reply.new.self c.serve-reply.new.self) (sym c.in-Some.is) (refl, refl))

pub returns-in-Ok-clause-made : goal.returns-in-Ok-clause-made
returns-in-Ok-clause-made g c = record {
  reply = c.serve-reply.result.0;
  wrote = c.serve-reply.new.self;
  writes = c.serve-reply.ensures.served;
  outcome = c.log_outcome.result;
  is_outcome = c.log_outcome.ensures;
  ends = subst (λ o. EndsFsync o (Ok tt) c.serve-reply.new.self c.sync_pool.new.self) (sym c.in_default.is) (c.in-Ok.field-0, c.in-Ok.ensures.synced);
}

pub returns-in-Ok-clause-durable : goal.returns-in-Ok-clause-durable
returns-in-Ok-clause-durable g c = all_are_durable c.args.self.now c.serve-reply.new.self c.sync_pool.new.self c.serve-reply.result.0 c.serve-reply.ensures.served c.serve-reply.ensures.explained (Ok tt) c.log_outcome.result c.log_outcome.ensures (subst (λ o. EndsFsync o (Ok tt) c.serve-reply.new.self c.sync_pool.new.self) (sym c.in_default.is) (c.in-Ok.field-0, c.in-Ok.ensures.synced))

pub returns-clause-made : goal.returns-clause-made
returns-clause-made g c = record {
  reply = c.serve-reply.result.0;
  wrote = c.serve-reply.new.self;
  writes = c.serve-reply.ensures.served;
  outcome = c.log_outcome.result;
  is_outcome = c.log_outcome.ensures;
  ends = subst (λ o. EndsFsync o (Err c.in-Err.error) c.serve-reply.new.self c.sync_pool.new.self) (sym c.in_default.is) c.in-Err.ensures.synced;
}

pub returns-clause-refused : goal.returns-clause-refused
returns-clause-refused g c = refusal_of_all c.args.self.now c.serve-reply.new.self c.sync_pool.new.self c.serve-reply.result.0 c.serve-reply.ensures.served (Err c.in-Err.error) c.log_outcome.result c.log_outcome.ensures (subst (λ o. EndsFsync o (Err c.in-Err.error) c.serve-reply.new.self c.sync_pool.new.self) (sym c.in_default.is) c.in-Err.ensures.synced)

pub returns-clause-not_log_space : goal.returns-clause-not_log_space
returns-clause-not_log_space g c = never_for_space c.args.self.now c.serve-reply.new.self c.sync_pool.new.self c.serve-reply.result.0 c.serve-reply.ensures.served (Err c.in-Err.error) c.log_outcome.result c.log_outcome.ensures (subst (λ o. EndsFsync o (Err c.in-Err.error) c.serve-reply.new.self c.sync_pool.new.self) (sym c.in_default.is) c.in-Err.ensures.synced)
