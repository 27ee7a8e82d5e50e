use Rattle.std.proofs.Common.{subst, sym}
use Rattle.import_replay.specs.RunStarts.{StartsRun}
use Rattle.base.proofs.crash.LeftDisks.{import_left}
use Rattle.scripts.proofs.imports.import_for_mount.Goals as goal

pub returns-in-Ok-clause-run : goal.returns-in-Ok-clause-run
returns-in-Ok-clause-run g c = record { limit = c.in-Ok.ensures.mounted.limit; counted = c.in-Ok.ensures.count; synced = λ keep. (c.in-Ok.ensures.written keep).synced }

pub returns-in-Ok-clause-starts : goal.returns-in-Ok-clause-starts
returns-in-Ok-clause-starts g c = λ keep.
    let m = c.in-Ok.imported.mounted in
    let old = g.D.SectorDevice.disk c.args.device in
    let new = g.D.SectorDevice.disk c.in-Ok.imported.device in
    subst (λ n. StartsRun old n new m) (sym c.in-Ok.ensures.mounted.limit) (c.in-Ok.ensures.starts keep)

pub returns-in-Ok-clause-still : goal.returns-in-Ok-clause-still
returns-in-Ok-clause-still g c = λ keep past was.
    (import_left past (g.D.SectorDevice.disk c.args.device) (g.D.SectorDevice.disk c.in-Ok.imported.device) was (c.in-Ok.ensures.own keep)).left

pub returns-in-Err-clause-still : goal.returns-in-Err-clause-still
returns-in-Err-clause-still g c = λ keep past was.
    (import_left past (g.D.SectorDevice.disk c.args.device) (g.D.SectorDevice.disk c.in-Err.refused.1) was (c.in-Err.ensures.own keep)).left

pub returns-in-Err-clause-refused : goal.returns-in-Err-clause-refused
returns-in-Err-clause-refused g c =
    let left = c.in-Err.ensures in
    record { size = left.size; refused = left.refused.kind; counted = left.count; reason = left.refused.reason; untouched = left.refused.untouched; unchanged = left.refused.unchanged; stopped = left.refused.stopped }
