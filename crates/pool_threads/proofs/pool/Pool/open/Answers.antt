use Rattle.base.specs.kept.Imports.{IsImportOf}
use Rattle.base.specs.disk.Calls.{with_refusal}
use Rattle.base.specs.disk.Disk.{bytes_of}
use Rattle.mounted.specs.ShownMounted.{shown_of_import}
use Rattle.std.proofs.Common.{◌∙◌, ap, inl, inr, sym, subst}
use Rattle.import_replay.specs.ImportSyncs.{IsImportSynced}
use Rattle.import_replay.specs.RunStarts.{StartsRun}
use Rattle.std.specs.Prelude.{◌≡◌, IsTrue}
use Rattle.pool_threads.specs.Handles.{LeavesSame, OpensBehind, StartsBehind, opened_of, opening_view, shared_of}
use Rattle.base.proofs.crash.LeftDisks.{import_left}
use Rattle.pool_threads.proofs.pool.Pool.open.Goals as goal

-- what holds of a device and of what is mounted on it holds of those that are the same
moved : {A B : Type 0} {a b : A} {m n : B} (P : A → B → Type 0) → b ≡ a → n ≡ m → P a m → P b n
moved {a} {n} P same_device same_mounted held = subst (λ x. P x n) (sym same_device) (subst (P a) (sym same_mounted) held)

pub share_after-requires : goal.share_after-requires
share_after-requires g c =
    let disk = g.D.SectorDevice.disk in
    let m = c.in-Ok.imported.mounted in
    let new = disk c.in-Ok.imported.device in
    let room = c.with_room-imported in
    let limit = (c.in-Ok.ensures.mounted.explained 0).exact.charges.limit in
    subst (λ d. IsTrue g.D.SectorDevice.keeps_model → StartsBehind (disk d) room.result.mounted (disk room.result.device)) (sym c.of-before.ensures)
    (λ keeps. moved (λ d x. StartsBehind (disk c.args.device) x (disk d)) room.ensures.device room.ensures.mounted
    (record { starts = subst (λ n. StartsRun (disk c.args.device) n new m) (sym limit) (c.in-Ok.ensures.starts keeps); own = c.in-Ok.ensures.own keeps }))

pub returns-in-Ok-share_after-clause-opened : goal.returns-in-Ok-share_after-clause-opened
returns-in-Ok-share_after-clause-opened g c =
    let disk = g.D.SectorDevice.disk in
    let keeps = IsTrue g.D.SectorDevice.keeps_model in
    let view = opening_view (shared_of c.in-Ok-share_after.pool) in
    let limit = (c.in-Ok.ensures.mounted.explained 0).exact.charges.limit ∙ c.limits_of_import.ensures.dirty_max in
    let same = ap (λ m. (shown_of_import m).dirty_max) c.with_room-imported.ensures.mounted in
    subst (λ d. OpensBehind keeps (disk d) c.args.limits.dirty_max view) c.of-before.ensures (subst (λ n. OpensBehind keeps (disk c.of-before.result.value) n view) (same ∙ limit) c.in-Ok-share_after.ensures.opened)

pub returns-in-Ok-share_after-clause-imported : goal.returns-in-Ok-share_after-clause-imported
returns-in-Ok-share_after-clause-imported g c = λ keeps.
    let disk = g.D.SectorDevice.disk in
    let m = c.in-Ok.imported.mounted in
    let room = c.with_room-imported in
    let image = bytes_of (disk c.args.device).now in
    let limit = (c.in-Ok.ensures.mounted.explained 0).exact.charges.limit in
    let same = c.in-Ok-share_after.ensures.shown.disk_is ∙ ap disk room.ensures.device in record {
      mounted = m;
      told_is = c.in-Ok-share_after.ensures.told ∙ ap opened_of room.ensures.mounted;
      replayed =
          subst (λ d. IsImportOf image (bytes_of d.now) m.dirty_max m.records (shown_of_import m)) (sym same)
          (subst (λ n. IsImportOf image (bytes_of (disk c.in-Ok.imported.device).now) n m.records (shown_of_import m)) (sym limit) (c.in-Ok.ensures.imported keeps).imported);
      synced = subst (λ d. IsImportSynced (disk c.args.device) d c.args.moment m) (sym same) (c.in-Ok.ensures.written keeps).synced;
      shown = c.in-Ok-share_after.ensures.shown.shown ∙ ap shown_of_import room.ensures.mounted;
    }

pub returns-in-Ok-share_after-clause-cache : goal.returns-in-Ok-share_after-clause-cache
returns-in-Ok-share_after-clause-cache g c =
    let allowed = sym c.limits_of_import.ensures.cache ∙ c.in-Ok.ensures.cache.0 in
    (allowed, c.in-Ok-share_after.ensures.shown.cache_is ∙ c.with_room-imported.ensures.room allowed)

pub returns-in-Err-clause-given_back : goal.returns-in-Err-clause-given_back
returns-in-Err-clause-given_back g c = λ keeps. inl (record { reason = c.in-Err.ensures.refused.reason keeps; unchanged = c.in-Err.ensures.refused.unchanged keeps; stopped = c.in-Err.ensures.refused.stopped keeps })

pub returns-clause-given_back : goal.returns-clause-given_back
returns-clause-given_back g c = λ keeps.
    let disk = g.D.SectorDevice.disk in
    let same = c.into_device.ensures ∙ c.in-Err-share_after.ensures.given_back.device_is ∙ c.with_room-imported.ensures.device in
    inr (
      c.in-Err-share_after.ensures.refused,
      (c.in-Ok.imported.mounted, subst (λ d. IsImportSynced (disk c.args.device) (disk d) c.args.moment c.in-Ok.imported.mounted) (sym same) (c.in-Ok.ensures.written keeps).synced),
    )

pub returns-in-Err-clause-still_left : goal.returns-in-Err-clause-still_left
returns-in-Err-clause-still_left g c = λ keeps past was.
    let disk = g.D.SectorDevice.disk in
    (import_left past (disk c.args.device) (disk c.in-Err.refused.1) was (c.in-Err.ensures.own keeps)).left

pub returns-clause-still_left : goal.returns-clause-still_left
returns-clause-still_left g c = λ keeps.
    let disk = g.D.SectorDevice.disk in
    let same = c.into_device.ensures ∙ c.in-Err-share_after.ensures.given_back.device_is ∙ c.with_room-imported.ensures.device in
    subst (λ d. LeavesSame (disk c.args.device) (disk d)) (sym same)
    (λ past was. (import_left past (disk c.args.device) (disk c.in-Ok.imported.device) was (c.in-Ok.ensures.own keeps)).left)

pub returns-clause-counted : goal.returns-clause-counted
returns-clause-counted g c =
    let refused = g.D.SectorDevice.refused in
    let same = c.into_device.ensures ∙ c.in-Err-share_after.ensures.given_back.device_is ∙ c.with_room-imported.ensures.device in
    ap refused same ∙ c.in-Ok.ensures.count ∙ ap (λ e. with_refusal e (refused c.args.device)) (sym c.in-Err-share_after.ensures.refused)
