use Rattle.std.proofs.Common.{◌+◌, Ok, subst}
use Rattle.base.specs.declared.error.PoolError.{PoolError}
use Rattle.base.specs.disk.Disk.{bytes_of}
use Rattle.object_views.specs.ObjectViews.{TellsOwnDamage}
use Rattle.copies.proofs.Looks.{only_read, read_on}
use Rattle.copies.proofs.Moved.{objects_moved, stop_moved}
use Rattle.copies.proofs.Steps.{passed}
use Rattle.copies.proofs.Stopped.{stop_for}
use Rattle.copies.proofs.pools.copy_next.Goals as goal

pub returns-in-Ok-copy_object-clause-reads : goal.returns-in-Ok-copy_object-clause-reads
returns-in-Ok-copy_object-clause-reads g c =
    read_on g.D.SectorDevice c.args.old.now c.view.new.device c.copy_object.new.old (only_read g.D.SectorDevice (Ok c.in-Ok.view) c.args.old.now c.view.new.device c.in-Ok.ensures.reads tt) c.in-Ok.ensures.reads.count c.in-Ok-copy_object.ensures.reads

pub returns-in-Ok-copy_object-clause-copied : goal.returns-in-Ok-copy_object-clause-copied
returns-in-Ok-copy_object-clause-copied g c =
    objects_moved g.D.SectorDevice.keeps_model (g.D.SectorDevice.disk c.view.new.device) (g.D.SectorDevice.disk c.args.old.now) c.in-Ok.ensures.reads.disk c.args.skips c.args.object.0 (c.args.object.0 + 1) c.in-Ok-copy_object.is_whole
    c.args.new.now c.copy_object.new.new (g.W.Write.contents c.args.out.now) (g.W.Write.contents c.copy_object.new.out) c.in-Ok-copy_object.ensures.copied

pub returns-in-Ok-clause-reads : goal.returns-in-Ok-clause-reads
returns-in-Ok-clause-reads g c =
    read_on g.D.SectorDevice c.args.old.now c.view.new.device c.copy_object.new.old (only_read g.D.SectorDevice (Ok c.in-Ok.view) c.args.old.now c.view.new.device c.in-Ok.ensures.reads tt) c.in-Ok.ensures.reads.count c.in-Err-copy_object.ensures.reads

pub returns-in-Ok-clause-stopped : goal.returns-in-Ok-clause-stopped
returns-in-Ok-clause-stopped g c =
    stop_moved g.D.SectorDevice.keeps_model (g.D.SectorDevice.disk c.view.new.device) (g.D.SectorDevice.disk c.args.old.now) c.in-Ok.ensures.reads.disk c.args.skips c.in-Err-copy_object.stop c.in-Err-copy_object.ensures.stopped

pub returns-in-Ok-pass_objects-clause-copied : goal.returns-in-Ok-pass_objects-clause-copied
returns-in-Ok-pass_objects-clause-copied g c =
    let d = c.in-Some.damage in
    let is = c.in-Some.ensures.damage in
    let done = c.in-Ok-pass_objects.ensures in
    passed g.D.SectorDevice.keeps_model (g.D.SectorDevice.disk c.args.old.now) c.args.skips c.args.object.0 c.in-Ok-pass_objects.after d done.next.0
    (λ keeps. (
      subst (λ (e : PoolError). TellsOwnDamage (bytes_of (g.D.SectorDevice.disk c.args.old.now).now) c.args.object.0 e d.kind d.address) is (c.in-Err.ensures.refused.damaged keeps (c.requires.paths keeps) d.kind d.address is),
      λ contents mounts. c.in-Err.ensures.sound keeps (c.requires.paths keeps) contents mounts d.kind d.address is,
    ))
    done.allowed c.args.new.now (g.W.Write.contents c.args.out.now) (g.W.Write.contents c.pass_objects.new.out) done.written

pub returns-in-Some-clause-stopped : goal.returns-in-Some-clause-stopped
returns-in-Some-clause-stopped g c =
    let d = c.in-Some.damage in
    stop_for g.D.SectorDevice.keeps_model (g.D.SectorDevice.disk c.args.old.now) c.args.skips d c.in-Err-pass_objects.stop c.in-Err-pass_objects.ensures.stopped
    (λ keeps contents mounts. c.in-Err.ensures.sound keeps (c.requires.paths keeps) contents mounts d.kind d.address c.in-Some.ensures.damage)
