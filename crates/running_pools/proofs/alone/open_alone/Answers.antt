use Rattle.std.proofs.Common.{◌∙◌, ap, inl, inr, sym, subst}
use Rattle.std.specs.Prelude.{IsTrue}
use Rattle.base.specs.disk.Calls.{with_refusal}
use Rattle.base.proofs.crash.LeftDisks.{import_left}
use Rattle.import_replay.specs.ImportSyncs.{IsImportSynced}
use Rattle.import_replay.specs.RunStarts.{StartsRun}
use Rattle.pool_threads.specs.Handles.{LeavesSame, OpensBehind, StartsBehind, opening_view, owned_of}
use Rattle.running_pools.proofs.alone.open_alone.Goals as goal

pub of_import-requires : goal.of_import-requires
of_import-requires g c =
    let disk = g.D.SectorDevice.disk in
    let m = c.in-Ok.imported.mounted in
    let new = disk c.in-Ok.imported.device in
    let limit = (c.in-Ok.ensures.mounted.explained 0).exact.charges.limit in
    subst (λ d. IsTrue g.D.SectorDevice.keeps_model → StartsBehind (disk d) m new) (sym c.of-before.ensures)
    (λ keeps. record { starts = subst (λ n. StartsRun (disk c.args.device) n new m) (sym limit) (c.in-Ok.ensures.starts keeps); own = c.in-Ok.ensures.own keeps })

pub returns-in-Ok-of_import-clause-opened : goal.returns-in-Ok-of_import-clause-opened
returns-in-Ok-of_import-clause-opened g c =
    let disk = g.D.SectorDevice.disk in
    let keeps = IsTrue g.D.SectorDevice.keeps_model in
    let view = opening_view (owned_of c.in-Ok-of_import.opened.0) in
    let limit = (c.in-Ok.ensures.mounted.explained 0).exact.charges.limit in
    subst (λ d. OpensBehind keeps (disk d) c.args.dirty_max view) c.of-before.ensures (subst (λ n. OpensBehind keeps (disk c.of-before.result.value) n view) limit c.in-Ok-of_import.ensures.opened)

pub returns-in-Err-clause-given_back : goal.returns-in-Err-clause-given_back
returns-in-Err-clause-given_back g c = λ keeps. inl (record { reason = c.in-Err.ensures.refused.reason keeps; unchanged = c.in-Err.ensures.refused.unchanged keeps; stopped = c.in-Err.ensures.refused.stopped keeps })

pub returns-clause-given_back : goal.returns-clause-given_back
returns-clause-given_back g c = λ keeps.
    let disk = g.D.SectorDevice.disk in
    let same = c.into_device.ensures ∙ c.in-Err-of_import.ensures.given_back.device_is in
    inr (
      c.in-Err-of_import.ensures.refused,
      (c.in-Ok.imported.mounted, subst (λ d. IsImportSynced (disk c.args.device) (disk d) c.args.moment c.in-Ok.imported.mounted) (sym same) (c.in-Ok.ensures.written keeps).synced),
    )

pub returns-in-Err-clause-still_left : goal.returns-in-Err-clause-still_left
returns-in-Err-clause-still_left g c = λ keeps past was.
    let disk = g.D.SectorDevice.disk in
    (import_left past (disk c.args.device) (disk c.in-Err.refused.1) was (c.in-Err.ensures.own keeps)).left

pub returns-clause-still_left : goal.returns-clause-still_left
returns-clause-still_left g c = λ keeps.
    let disk = g.D.SectorDevice.disk in
    let same = c.into_device.ensures ∙ c.in-Err-of_import.ensures.given_back.device_is in
    subst (λ d. LeavesSame (disk c.args.device) (disk d)) (sym same)
    (λ past was. (import_left past (disk c.args.device) (disk c.in-Ok.imported.device) was (c.in-Ok.ensures.own keeps)).left)

pub returns-clause-counted : goal.returns-clause-counted
returns-clause-counted g c =
    let refused = g.D.SectorDevice.refused in
    ap refused (c.into_device.ensures ∙ c.in-Err-of_import.ensures.given_back.device_is) ∙ c.in-Ok.ensures.count ∙ ap (λ e. with_refusal e (refused c.args.device)) (sym c.in-Err-of_import.ensures.refused)
