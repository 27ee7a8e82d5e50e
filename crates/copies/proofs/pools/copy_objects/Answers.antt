use Rattle.std.proofs.Common.{subst, sym, ◌∙◌}
use Rattle.std.proofs.lemmas.Result.{err_from_is_err_and}
use Rattle.base.specs.disk.Disk.{Disk, bytes_of}
use Rattle.object_views.specs.PoolPaths.{ArePathsOf}
use Rattle.copies.specs.Copies.{IsObjectStep, is_copied, object_lines, object_writes}
use Rattle.copies.proofs.Looks.{alone_on, read_on}
use Rattle.copies.proofs.Moved.{objects_moved, stop_moved}
use Rattle.copies.proofs.Steps.{goes_on}
use Rattle.copies.proofs.pools.copy_objects.Goals as goal

pub copy_next-requires-clause-paths : goal.copy_next-requires-clause-paths
copy_next-requires-clause-paths g c = λ keeps. subst (λ (d : Disk). ArePathsOf (bytes_of d.now) c.args.paths.now) (sym (c.loop-number.invariant.reads.disk keeps)) (c.requires.paths keeps)

pub loop-number-preserved : goal.loop-number-preserved
loop-number-preserved g c =
    let keep = g.D.SectorDevice.keeps_model in
    let before = g.D.SectorDevice.disk c.args.old.now in
    let inv = c.loop-number.invariant in
    let next = c.in_ok-copied.ensures in
    let number = c.in_ok-copied.copied.0 in
    let whole = c.in_ok-copied.copied.1 in
    let o = g.W.Write.contents c.loop-number.out in
    let p = g.W.Write.contents c.copy_next.new.out in
    record {
      within = next.next.1;
      reads = read_on g.D.SectorDevice c.args.old.now c.loop-number.old c.copy_next.new.old inv.reads inv.answered next.reads;
      answered = next.answered ∙ inv.answered;
      copied = goes_on (IsObjectStep keep before) object_writes object_lines is_copied c.args.skips 0 c.loop-number.number number c.loop-number.is_whole whole
          c.args.new.now c.loop-number.new c.copy_next.new.new (g.W.Write.contents c.args.out.now) o p inv.copied
          (objects_moved keep (g.D.SectorDevice.disk c.loop-number.old) before inv.reads.disk c.args.skips c.loop-number.number number whole c.loop-number.new c.copy_next.new.new o p next.copied);
      stays = alone_on c.args.new.now c.loop-number.new c.copy_next.new.new inv.stays next.stays;
    }

pub returns-in_err-copied-clause-stopped : goal.returns-in_err-copied-clause-stopped
returns-in_err-copied-clause-stopped g c =
    let p = err_from_is_err_and c.from_residual.result c.from_residual.ensures.1 in
    rw (p.1, p.2) (stop_moved g.D.SectorDevice.keeps_model (g.D.SectorDevice.disk c.loop-number.old) (g.D.SectorDevice.disk c.args.old.now) c.loop-number.invariant.reads.disk c.args.skips c.in_err-copied.field-0.0 c.in_err-copied.ensures.stopped)
