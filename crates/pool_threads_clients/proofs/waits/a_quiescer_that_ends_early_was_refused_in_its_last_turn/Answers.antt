use Rattle.pool_tables.specs.declared.duty.Duty.TheVariants as duty
use Rattle.pool_threads_clients.proofs.LoopClients.{ended_early}
use Rattle.pool_threads_clients.proofs.waits.a_quiescer_that_ends_early_was_refused_in_its_last_turn.Goals as goal

pub returns : goal.returns
returns g c = ended_early duty.Quiesce c.quiescer.result c.args.handle.now c.quiescer.new.self c.quiescer.ensures.worked
