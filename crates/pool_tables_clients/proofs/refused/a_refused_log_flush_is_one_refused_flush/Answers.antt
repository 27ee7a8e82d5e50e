use Rattle.std.proofs.Common.{◌∙◌, refl}
use Rattle.pool_tables_clients.proofs.Passed.{ok_counts}
use Rattle.pool_tables_clients.proofs.refused.a_refused_log_flush_is_one_refused_flush.Goals as goal

pub returns-clause-flush : goal.returns-clause-flush
returns-clause-flush g c = λ is. c.log_flush.ensures.count ∙ rw (is, c.requires) refl

pub returns-clause-good : goal.returns-clause-good
returns-clause-good g c = ok_counts c.log_flush.result (g.D.SectorDevice.refused c.args.device.now) (g.D.SectorDevice.refused c.log_flush.new.device) c.log_flush.ensures.count
