use Rattle.std.proofs.Common.{◌∙◌, refl}
use Rattle.pool_tables_clients.proofs.Passed.{ok_counts}
use Rattle.pool_tables_clients.proofs.refused.a_refused_sync_step_is_one_refused_call.Goals as goal

pub returns-clause-write : goal.returns-clause-write
returns-clause-write g c = λ is. c.sync_step.ensures.count ∙ rw (is, c.requires.count) refl

pub returns-clause-flush : goal.returns-clause-flush
returns-clause-flush g c = λ is. c.sync_step.ensures.count ∙ rw (is, c.requires.count) refl

pub returns-clause-good : goal.returns-clause-good
returns-clause-good g c = ok_counts c.sync_step.result (g.B.SectorDevice.refused c.args.device.now) (g.B.SectorDevice.refused c.sync_step.new.device) c.sync_step.ensures.count
