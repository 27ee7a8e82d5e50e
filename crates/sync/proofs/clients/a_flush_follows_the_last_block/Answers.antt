use Rattle.std.proofs.Common.{IsTrue}
use Rattle.sync.proofs.Promises.{second_flushes, second_refused}
use Rattle.sync.proofs.clients.a_flush_follows_the_last_block.Goals as goal

pub returns-clause-flushed : goal.returns-clause-flushed
returns-clause-flushed g c = λ keeps.
    second_flushes (IsTrue g.D.SectorDevice.keeps_model) c.args.run.now c.requires.written c.requires.one c.next.result _ _ c.next.ensures.called keeps

pub returns-clause-refused : goal.returns-clause-refused
returns-clause-refused g c =
    second_refused (IsTrue g.D.SectorDevice.keeps_model) c.args.run.now c.requires.written c.requires.one c.next.result _ _ c.next.ensures.called
