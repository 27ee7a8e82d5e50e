use Rattle.std.proofs.Common.{Err, Ok, subst, sym}
use Rattle.std.proofs.lemmas.Result.{IfErr-weaker, IfOk-weaker}
use Rattle.base.specs.disk.Disk.{Disk, bytes_of}
use Rattle.object_views.specs.PoolPaths.{ArePathsOf}
use Rattle.copies.proofs.Ends.{failure_moved, finding_failed, whole_moved}
use Rattle.copies.proofs.Looks.{only_read, read_on}
use Rattle.copies.proofs.Stopped.{found_reader}
use Rattle.copies.proofs.files.copy_found.Goals as goal

pub copy_to_file-requires-clause-paths : goal.copy_to_file-requires-clause-paths
copy_to_file-requires-clause-paths g c = λ keeps. subst (λ (d : Disk). ArePathsOf (bytes_of d.now) c.in-Ok.paths) (sym (c.in-Ok.ensures.reads.disk keeps)) (c.in-Ok.ensures.paths keeps)

pub returns-in-Ok-clause-reads : goal.returns-in-Ok-clause-reads
returns-in-Ok-clause-reads g c =
    read_on g.D.SectorDevice c.args.old.now c.find_paths.new.device c.copy_to_file.new.old (only_read g.D.SectorDevice (Ok c.in-Ok.paths) c.args.old.now c.find_paths.new.device c.in-Ok.ensures.reads tt) c.in-Ok.ensures.reads.count c.copy_to_file.ensures.reads

pub returns-in-Ok-clause-copied : goal.returns-in-Ok-clause-copied
returns-in-Ok-clause-copied g c =
    let D = g.D.SectorDevice in
    IfOk-weaker c.copy_to_file.result _ _
    (λ whole all. whole_moved D.keeps_model (D.disk c.find_paths.new.device) (D.disk c.args.old.now) c.in-Ok.ensures.reads.disk c.args.arguments.skips_damaged whole (g.W.Write.contents c.args.out.now) (g.W.Write.contents c.copy_to_file.new.out) all)
    c.copy_to_file.ensures.copied

pub returns-in-Ok-clause-failed : goal.returns-in-Ok-clause-failed
returns-in-Ok-clause-failed g c =
    let D = g.D.SectorDevice in
    IfErr-weaker c.copy_to_file.result _ _
    (λ why failed. failure_moved D.keeps_model (D.disk c.find_paths.new.device) (D.disk c.args.old.now) c.in-Ok.ensures.reads.disk c.args.arguments.skips_damaged why failed)
    c.copy_to_file.ensures.failed

pub returns-in-Err-clause-reads : goal.returns-in-Err-clause-reads
returns-in-Err-clause-reads g c =
    only_read g.D.SectorDevice (Err c.in-Err.refusal) c.args.old.now c.find_paths.new.device c.in-Err.ensures.reads (found_reader (g.D.SectorDevice.size c.args.old.now) c.in-Err.refusal c.in-Err.ensures.refused.kind)

pub returns-in-Err-clause-failed : goal.returns-in-Err-clause-failed
returns-in-Err-clause-failed g c =
    finding_failed g.D.SectorDevice.keeps_model (g.D.SectorDevice.disk c.args.old.now) c.args.arguments.skips_damaged c.in-Err.refusal c.of_pool.result c.in-Err.ensures.refused.undamaged c.of_pool.ensures.cause
