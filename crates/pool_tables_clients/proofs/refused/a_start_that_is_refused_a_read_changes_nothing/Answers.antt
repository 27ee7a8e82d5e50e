use Rattle.std.proofs.Common.{◌∙◌, refl}
use Rattle.pool_tables_clients.proofs.Passed.{ok_counts}
use Rattle.pool_tables_clients.proofs.refused.a_start_that_is_refused_a_read_changes_nothing.Goals as goal

pub returns-clause-read : goal.returns-clause-read
returns-clause-read g c = λ is. c.start_sync.ensures.reads.count ∙ rw (is, c.requires.count) refl

pub returns-clause-good : goal.returns-clause-good
returns-clause-good g c = ok_counts c.start_sync.result (g.B.SectorDevice.refused c.args.reader.now) (g.B.SectorDevice.refused c.start_sync.new.reader) c.start_sync.ensures.reads.count
