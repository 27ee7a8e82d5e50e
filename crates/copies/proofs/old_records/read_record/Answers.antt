use Rattle.base.specs.disk.Disk.{bytes_of}
use Rattle.copies.proofs.RecordReads.{all_lost}
use Rattle.copies.proofs.old_records.read_record.Goals as goal

pub returns-in-Ok-clause-read : goal.returns-in-Ok-clause-read
returns-in-Ok-clause-read g c = λ keeps seen. (c.in-Ok.ensures.checked keeps seen, λ contents mounts. c.in-Ok.ensures.exact keeps contents seen mounts)

pub returns-in-Err-Damaged-clause-read : goal.returns-in-Err-Damaged-clause-read
returns-in-Err-Damaged-clause-read g c =
    let arm = c.in-Err-Damaged in
    λ keeps seen. (
      all_lost (bytes_of (g.D.SectorDevice.disk c.args.device.now).now) seen.u.root c.args.view.now c.args.range arm.field-0 arm.kind arm.address arm.field-0-is c.requires.inside (arm.ensures.damage keeps seen),
      λ contents mounts. arm.ensures.sound keeps contents seen mounts arm.kind arm.address arm.field-0-is,
    )
