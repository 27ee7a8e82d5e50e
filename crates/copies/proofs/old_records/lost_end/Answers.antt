use Rattle.std.proofs.Common.{◌≡◌, List, arith, rules, true, ◌∙◌, ℕ}
use Rattle.base.specs.declared.pointer.Pointer.{Pointer}
use Rattle.copies.specs.ReadRecords.{IsRangeRead}
use Rattle.copies.proofs.Moved.{seen_moved}
use Rattle.copies.proofs.RecordReads.{lost_more}
use Rattle.copies.proofs.old_records.lost_end.Goals as goal

pub loop-end-preserved : goal.loop-end-preserved
loop-end-preserved g c =
    let inv = c.loop-end.invariant in
    let v = c.args.view.now in
    let range = c.record_from-range.result in
    let ranged = c.record_from-range.ensures in
    let read = c.in_ok-read.ensures in
    let found : c.is_damaged_by.result ≡ true = search rules in
    record {
      above = omega (arith, inv.above, ranged.record.some);
      within = ranged.record.within;
      aligned = ranged.next inv.aligned;
      device = read.reads.size ∙ inv.device;
      disk = λ keeps. read.reads.disk keeps ∙ inv.disk keeps;
      counted = read.reads.count ∙ inv.counted;
      lost = lost_more g.D.SectorDevice.keeps_model (g.D.SectorDevice.disk c.args.device.now) v c.args.damage c.args.low c.loop-end.end range c.in_ok-read.read inv.lost
          (seen_moved g.D.SectorDevice.keeps_model (g.D.SectorDevice.disk c.loop-end.device) (g.D.SectorDevice.disk c.args.device.now) inv.disk v (λ (image : List ℕ) (root : Pointer). IsRangeRead image root v range c.in_ok-read.read) read.read)
          (c.is_damaged_by.ensures found) ranged.record.begins;
    }
