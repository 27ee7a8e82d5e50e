use Rattle.std.proofs.Common.{subst, sym}
use Rattle.scripts.specs.Kept.{FindsRun, KeepsOverImport}
use Rattle.scripts.specs.Sessions.{Imports}
use Rattle.scripts.proofs.session.Session.import.Goals as goal

pub returns-in-Ok-clause-imports : goal.returns-in-Ok-clause-imports
returns-in-Ok-clause-imports g c = (
  c.in-Some.device,
  c.in-Some.ensures.device,
  (rw (← c.take_device.ensures.same_run.0) c.in-Ok.ensures.mounted, λ keep past run. c.in-Ok.ensures.begun keep past (c.in-Some.ensures.kept keep past run)),
)

pub returns-in-Err-clause-imports : goal.returns-in-Err-clause-imports
returns-in-Err-clause-imports g c =
    let V = g.D.SectorDevice in
    let G = g.P.MountedPool in
    let left = c.in-Err.ensures in
    let imports : Imports V G c.args.dirty_max c.args.cache_blocks c.args.self.now.moment c.in-Some.device c.give_back.result c.give_back.new.self = rw (c.give_back.ensures.device, ← c.take_device.ensures.same_run.0)
    (record { error = c.in-Err.error; told_is = c.give_back.ensures.refused; still = left.still; left = left.refused }) in
    let keeps : KeepsOverImport V G c.args.dirty_max c.args.self.now.place c.give_back.new.self = λ keep past run.
    subst (λ place. FindsRun V G past c.args.dirty_max place) (sym c.give_back.ensures.device)
    (g.met.P.MountedPool.carries past (V.disk c.in-Some.device) (V.disk c.in-Err.device) (left.still keep past) (c.in-Some.ensures.kept keep past run)) in
    (c.in-Some.device, c.in-Some.ensures.device, (imports, keeps))
