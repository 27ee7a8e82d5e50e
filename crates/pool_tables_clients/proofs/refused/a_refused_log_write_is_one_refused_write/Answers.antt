use Rattle.std.proofs.Common.{◌∙◌, refl}
use Rattle.pool_tables_clients.proofs.Passed.{ok_counts}
use Rattle.pool_tables_clients.proofs.refused.a_refused_log_write_is_one_refused_write.Goals as goal

pub returns-clause-write : goal.returns-clause-write
returns-clause-write g c = λ is. c.log_write.ensures.count ∙ rw (is, c.requires.count) refl

pub returns-clause-good : goal.returns-clause-good
returns-clause-good g c = ok_counts c.log_write.result (g.D.SectorDevice.refused c.args.device.now) (g.D.SectorDevice.refused c.log_write.new.device) c.log_write.ensures.count
