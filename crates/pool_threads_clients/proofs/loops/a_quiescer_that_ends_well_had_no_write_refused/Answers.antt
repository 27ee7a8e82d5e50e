use Rattle.pool_tables.specs.declared.duty.Duty.TheVariants as duty
use Rattle.pool_threads_clients.proofs.LoopClients.{ended_well}
use Rattle.pool_threads_clients.proofs.loops.a_quiescer_that_ends_well_had_no_write_refused.Goals as goal

pub returns : goal.returns
returns g c = ended_well duty.Quiesce c.quiescer.result c.args.handle.now c.quiescer.new.self c.quiescer.ensures.worked
