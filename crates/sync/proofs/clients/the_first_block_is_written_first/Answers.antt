use Rattle.std.proofs.Common.{IsTrue}
use Rattle.sync.proofs.Promises.{first_refused, first_written}
use Rattle.sync.proofs.clients.the_first_block_is_written_first.Goals as goal

pub returns-clause-first : goal.returns-clause-first
returns-clause-first g c = λ keeps.
    first_written (IsTrue g.D.SectorDevice.keeps_model) c.args.run.now c.requires.begun c.requires.two c.next.result _ _ c.next.ensures.called keeps

pub returns-clause-refused : goal.returns-clause-refused
returns-clause-refused g c =
    first_refused (IsTrue g.D.SectorDevice.keeps_model) c.args.run.now c.requires.begun c.requires.two c.next.result _ _ c.next.ensures.called
