use Rattle.std.proofs.Common.{List, subst, ℕ}
use Rattle.std.specs.Prelude.{IsTrue}
use Rattle.base.specs.disk.Disk.{moments}
use Rattle.base.specs.history.Past.{new_past}
use Rattle.base.specs.kept.LeftDisks.{IsLeft}
use Rattle.import_replay.specs.OwnCreations.{first_contents}
use Rattle.pool_threads.specs.Handles.{owned_of}
use Rattle.copies.proofs.Held.{copied_so}
use Rattle.copies.proofs.copying.copy_into.Goals as goal

pub returns-clause-copied : goal.returns-clause-copied
returns-clause-copied g c =
    let created = c.in-Ok.created in
    copied_so (owned_of c.in-Ok-open_alone.opened.0) created 16777216 c.in-Ok-open_alone.ensures.opened c.args.pool.name (moments (g.N.SectorDevice.disk c.args.new))
    (subst (λ (name : List ℕ). IsTrue g.N.SectorDevice.keeps_model → IsLeft (new_past (first_contents name) (moments (g.N.SectorDevice.disk c.args.new)) 0) (g.N.SectorDevice.disk created)) c.as_slice.ensures.bytes c.in-Ok.ensures.left)
    g.D.SectorDevice.keeps_model (g.D.SectorDevice.disk c.args.old.now) c.args.skips c.copy_and_leave-end.result.0 c.copy_and_leave-end.result.1 (g.W.Write.contents c.args.out.now) (g.W.Write.contents c.copy_and_leave-end.new.out)
    c.copy_and_leave-end.ensures.copied c.close_alone-closed.result c.close_alone-closed.ensures
