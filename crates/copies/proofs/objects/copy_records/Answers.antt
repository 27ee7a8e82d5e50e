use Rattle.std.proofs.Common.{subst, sym, ◌∙◌}
use Rattle.std.proofs.lemmas.Result.{err_from_is_err_and}
use Rattle.base.specs.disk.Disk.{Disk, bytes_of}
use Rattle.object_views.specs.ObjectViews.{IsObjectViewOf}
use Rattle.copies.specs.Copies.{IsRecordStep, is_kept, record_lines, record_writes, viewed_object}
use Rattle.copies.proofs.Looks.{alone_on, read_on}
use Rattle.copies.proofs.Moved.{records_moved, stop_moved}
use Rattle.copies.proofs.Steps.{goes_on}
use Rattle.copies.proofs.objects.copy_records.Goals as goal

pub copy_record-requires-clause-seen : goal.copy_record-requires-clause-seen
copy_record-requires-clause-seen g c = λ keeps. subst (λ (d : Disk). IsObjectViewOf (bytes_of d.now) c.args.view.now) (sym (c.loop-low.invariant.reads.disk keeps)) (c.requires.seen keeps)

pub loop-low-preserved : goal.loop-low-preserved
loop-low-preserved g c =
    let keep = g.D.SectorDevice.keeps_model in
    let before = g.D.SectorDevice.disk c.args.old.now in
    let inv = c.loop-low.invariant in
    let next = c.in_ok-copied.ensures in
    let v = c.args.view.now in
    let low = c.in_ok-copied.copied.0 in
    let whole = c.in_ok-copied.copied.1 in
    let o = g.W.Write.contents c.loop-low.out in
    let p = g.W.Write.contents c.copy_record.new.out in
    record {
      within = next.next.1;
      aligned = next.next.2;
      reads = read_on g.D.SectorDevice c.args.old.now c.loop-low.old c.copy_record.new.old inv.reads inv.answered next.reads;
      answered = next.answered ∙ inv.answered;
      copied = goes_on (IsRecordStep keep before v) (record_writes (viewed_object v)) (record_lines (viewed_object v)) is_kept c.args.skips 0 c.loop-low.low low c.loop-low.is_whole whole
          c.args.new.now c.loop-low.new c.copy_record.new.new (g.W.Write.contents c.args.out.now) o p inv.copied
          (records_moved keep (g.D.SectorDevice.disk c.loop-low.old) before inv.reads.disk v c.args.skips c.loop-low.low low whole c.loop-low.new c.copy_record.new.new o p next.copied);
      stays = alone_on c.args.new.now c.loop-low.new c.copy_record.new.new inv.stays next.stays;
    }

pub returns-in_err-copied-clause-stopped : goal.returns-in_err-copied-clause-stopped
returns-in_err-copied-clause-stopped g c =
    let p = err_from_is_err_and c.from_residual.result c.from_residual.ensures.1 in
    rw (p.1, p.2) (stop_moved g.D.SectorDevice.keeps_model (g.D.SectorDevice.disk c.loop-low.old) (g.D.SectorDevice.disk c.args.old.now) c.loop-low.invariant.reads.disk c.args.skips c.in_err-copied.field-0.0 c.in_err-copied.ensures.stopped)
