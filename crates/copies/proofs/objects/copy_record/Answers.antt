use Rattle.std.proofs.Common.{◌≡◌, ◌<◌, Ok, subst, sym, ℕ}
use Rattle.std.specs.Io.KnownBytes.{Appends}
use Rattle.base.specs.declared.names.ObjectId.{ObjectId}
use Rattle.copies.specs.Copies.{AreChecked, IsLostFrom, WritesUnlessZeros, viewed_object}
use Rattle.copies.specs.Lines.{missing_line}
use Rattle.copies.specs.declared.missing.Missing.TheVariants as missing
use Rattle.copies.proofs.Looks.{only_read, read_on}
use Rattle.copies.proofs.Moved.{lost_moved, stop_moved}
use Rattle.copies.proofs.RecordReads.{read_bytes, read_damage}
use Rattle.copies.proofs.Steps.{lost, same_object, wrote}
use Rattle.copies.proofs.objects.copy_record.Goals as goal

pub pass_over-requires-clause-lost : goal.pass_over-requires-clause-lost
pass_over-requires-clause-lost g c =
    let keep = g.D.SectorDevice.keeps_model in
    let before = g.D.SectorDevice.disk c.args.old.now in
    let range = c.record_from-range.result in
    lost_moved keep before (g.D.SectorDevice.disk c.read_record.new.device) (λ k. sym (c.in-Ok.ensures.reads.disk k)) c.args.view.now c.in-Damaged.damage range.low range.high
    (read_damage keep before c.args.view.now range c.in-Ok.read c.in-Damaged.damage c.in-Ok.ensures.read c.in-Damaged.is)

pub returns-in-Ok-write_bytes-clause-copied : goal.returns-in-Ok-write_bytes-clause-copied
returns-in-Ok-write_bytes-clause-copied g c =
    let keep = g.D.SectorDevice.keeps_model in
    let before = g.D.SectorDevice.disk c.args.old.now in
    let v = c.args.view.now in
    let range = c.record_from-range.result in
    let ranged = c.record_from-range.ensures.record in
    let bytes = c.in-Bytes.bytes in
    let same : c.args.object ≡ viewed_object v = same_object c.args.object v c.requires.object in
    wrote keep before v c.args.skips c.args.low range.high bytes ranged.some
    (subst (λ (k : ℕ). AreChecked keep before v k range.high bytes) ranged.begins (read_bytes keep before v range c.in-Ok.read bytes c.in-Ok.ensures.read c.in-Bytes.is))
    c.args.new.now c.write_bytes.new.new (subst (λ (n : ObjectId). WritesUnlessZeros n c.args.low bytes c.args.new.now c.write_bytes.new.new) same c.in-Ok-write_bytes.ensures.made)
    (g.W.Write.contents c.args.out.now)

pub returns-in-Ok-pass_over-clause-reads : goal.returns-in-Ok-pass_over-clause-reads
returns-in-Ok-pass_over-clause-reads g c =
    read_on g.D.SectorDevice c.args.old.now c.read_record.new.device c.pass_over.new.old
    (only_read g.D.SectorDevice (Ok c.in-Ok.read) c.args.old.now c.read_record.new.device c.in-Ok.ensures.reads tt) c.in-Ok.ensures.reads.count c.in-Ok-pass_over.ensures.reads

pub returns-in-Ok-pass_over-clause-copied : goal.returns-in-Ok-pass_over-clause-copied
returns-in-Ok-pass_over-clause-copied g c =
    let keep = g.D.SectorDevice.keeps_model in
    let before = g.D.SectorDevice.disk c.args.old.now in
    let v = c.args.view.now in
    let range = c.record_from-range.result in
    let ranged = c.record_from-range.ensures.record in
    let d = c.in-Damaged.damage in
    let high = c.in-Ok-pass_over.next in
    let passed = c.in-Ok-pass_over.ensures in
    let o = g.W.Write.contents c.args.out.now in
    let p = g.W.Write.contents c.pass_over.new.out in
    let same : c.args.object ≡ viewed_object v = same_object c.args.object v c.requires.object in
    lost keep before v c.args.skips c.args.low high d (subst (λ (k : ℕ). k < high) ranged.begins passed.next.0)
    (subst (λ (k : ℕ). IsLostFrom keep before v d k high) ranged.begins (lost_moved keep (g.D.SectorDevice.disk c.read_record.new.device) before c.in-Ok.ensures.reads.disk v d range.low high passed.lost))
    passed.allowed c.args.new.now o p
    (subst (λ (n : ObjectId). Appends o p (missing_line (missing.Bytes n (record { low = c.args.low; high = high }) d))) same
    (subst (λ (k : ℕ). Appends o p (missing_line (missing.Bytes c.args.object (record { low = k; high = high }) d))) ranged.begins passed.written))

pub returns-in-Err-pass_over-clause-stopped : goal.returns-in-Err-pass_over-clause-stopped
returns-in-Err-pass_over-clause-stopped g c =
    stop_moved g.D.SectorDevice.keeps_model (g.D.SectorDevice.disk c.read_record.new.device) (g.D.SectorDevice.disk c.args.old.now) c.in-Ok.ensures.reads.disk c.args.skips c.in-Err-pass_over.stop c.in-Err-pass_over.ensures.stopped
