use Rattle.std.proofs.Common.{IsTrue}
use Rattle.sync.proofs.Promises.{staged_flushes, staged_refused}
use Rattle.sync.proofs.clients.a_flush_follows_the_first_configs.Goals as goal

pub returns-clause-flushed : goal.returns-clause-flushed
returns-clause-flushed g c = λ keeps.
    staged_flushes (IsTrue g.D.SectorDevice.keeps_model) c.args.run.now c.requires.written c.requires.none c.args.stages.now c.requires.named c.next.result _ _ c.next.ensures.called keeps

pub returns-clause-refused : goal.returns-clause-refused
returns-clause-refused g c =
    staged_refused (IsTrue g.D.SectorDevice.keeps_model) c.args.run.now c.requires.written c.requires.none c.args.stages.now c.requires.named c.next.result _ _ c.next.ensures.called
