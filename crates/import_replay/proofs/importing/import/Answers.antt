use Rattle.std.proofs.Common.{◌≡◌, ◌∙◌, Bool, ℕ, List, ap, length, subst, sym}
use Rattle.base.specs.kept.CrashRule.{KeepsOwn}
use Rattle.base.specs.kept.Imports.{are_limits_allowed}
use Rattle.base.specs.disk.Disk.{bytes_of}
use Rattle.base.specs.formats.Geometry.{IsGeometry}
use Rattle.base.specs.history.Past.{new_past}
use Rattle.base.specs.steps.Tables.{AreTablesExplained}
use Rattle.block_cache.specs.CachedDevices.{device_in}
use Rattle.contents.specs.ContentsShown.{contents_of}
use Rattle.import_replay.specs.ImportRefusals.{IsImportRefusal}
use Rattle.import_replay.specs.Mounts.{IsImport, StandsOnDevice}
use Rattle.mounted.specs.ShownMounted.{shown_of_import}
use Rattle.import_replay.specs.Refused.{IsMountRefused}
use Rattle.import_replay.specs.RunStarts.{StartsRun}
use Rattle.import_replay.specs.ShownMounts.{LabelsShow}
use Rattle.import_replay.proofs.CachedImports.{holds_outside}
use Rattle.import_replay.proofs.Refused.{bounds_refused, mount_refused}
use Rattle.import_replay.proofs.ShownMounts.{labels_show}
use Rattle.import_replay.proofs.importing.import.Goals as goal

pub invariant_of-result-clause-stands : goal.invariant_of-result-clause-stands
invariant_of-result-clause-stands g c = ∣ (λ keeps.
    let m = c.in-Ok-mount_pool.mounted in
    holds_outside c.new-cached.ensures.device c.into_parts-device.ensures.device (λ old new. StandsOnDevice (bytes_of (g.D.SectorDevice.disk new).now) m) (c.in-Ok-mount_pool.ensures.imported keeps).stands) ∣₁

pub invariant_of-result-clause-labels : goal.invariant_of-result-clause-labels
invariant_of-result-clause-labels g c = ∣ (λ keeps.
    let m = c.in-Ok-mount_pool.mounted in
    let told = c.in-Ok-mount_pool.ensures in
    let put_in = c.new-cached.ensures.device in
    let now : List ℕ = bytes_of (g.D.SectorDevice.disk (device_in c.mount_pool.new.device)).now in
    let written = told.written keeps in
    let size : length now ≡ c.in-Ok.geometry = g.met.D.SectorDevice.sized keeps (device_in c.mount_pool.new.device) ∙ told.device.size
    ∙ ap (λ d. g.D.SectorDevice.size d) put_in ∙ sym c.sectors.ensures.size ∙ sym c.in-Ok.ensures.size in
    holds_outside put_in c.into_parts-device.ensures.device (λ old new. LabelsShow (bytes_of (g.D.SectorDevice.disk new).now) m)
    (labels_show now c.args.moment m (size ∙ sym told.mounted.geometry) written.labelled.0 (subst IsGeometry (sym size) told.mounted.made.0) written.active)) ∣₁

pub invariant_of-result-clause-explained : goal.invariant_of-result-clause-explained
invariant_of-result-clause-explained g c =
    let m = c.in-Ok-mount_pool.mounted in
    let told = c.in-Ok-mount_pool.ensures.mounted in
    ∣ subst (λ (limit : ℕ). (created : ℕ) → AreTablesExplained (shown_of_import m) (new_past (contents_of m.contents) created limit)) (sym told.limit) told.explained ∣₁

pub returns-in-Ok-mount_pool-clause-imported : goal.returns-in-Ok-mount_pool-clause-imported
returns-in-Ok-mount_pool-clause-imported g c = λ keeps.
    holds_outside c.new-cached.ensures.device c.into_parts-device.ensures.device
    (λ old new. IsImport (bytes_of (g.D.SectorDevice.disk old).now) (bytes_of (g.D.SectorDevice.disk new).now) c.args.limits.dirty_max c.in-Ok-mount_pool.mounted) (c.in-Ok-mount_pool.ensures.imported keeps)

pub returns-in-Ok-mount_pool-clause-own : goal.returns-in-Ok-mount_pool-clause-own
returns-in-Ok-mount_pool-clause-own g c = λ keeps.
    holds_outside c.new-cached.ensures.device c.into_parts-device.ensures.device (λ old new. KeepsOwn (g.D.SectorDevice.disk old) (g.D.SectorDevice.disk new)) (c.mount_pool.ensures.own keeps)

pub returns-in-Ok-mount_pool-clause-starts : goal.returns-in-Ok-mount_pool-clause-starts
returns-in-Ok-mount_pool-clause-starts g c = λ keeps.
    holds_outside c.new-cached.ensures.device c.into_parts-device.ensures.device
    (λ old new. StartsRun (g.D.SectorDevice.disk old) c.args.limits.dirty_max (g.D.SectorDevice.disk new) c.in-Ok-mount_pool.mounted) (c.in-Ok-mount_pool.ensures.starts keeps)

pub returns-in-Err-clause-refused : goal.returns-in-Err-clause-refused
returns-in-Err-clause-refused g c =
    let allowed : Bool = are_limits_allowed c.args.limits.dirty_max c.args.limits.cache_blocks in
    let bad = c.in-Err.ensures.refused in
    bounds_refused g.D.SectorDevice allowed c.args.moment c.args.device c.in-Err.error bad.0
    (subst (λ (n : ℕ). IsImportRefusal n allowed c.in-Err.error) c.sectors.ensures.size bad.1)

pub returns-in-Err-mount_pool-clause-own : goal.returns-in-Err-mount_pool-clause-own
returns-in-Err-mount_pool-clause-own g c = λ keeps.
    holds_outside c.new-cached.ensures.device c.into_parts-device-in-Err-mount_pool.ensures.device (λ old new. KeepsOwn (g.D.SectorDevice.disk old) (g.D.SectorDevice.disk new)) (c.mount_pool.ensures.own keeps)

pub returns-in-Err-mount_pool-clause-refused : goal.returns-in-Err-mount_pool-clause-refused
returns-in-Err-mount_pool-clause-refused g c =
    let e = c.in-Err-mount_pool.error in
    let sized : IsGeometry (g.D.SectorDevice.size c.args.device) = subst IsGeometry (c.in-Ok.ensures.size ∙ c.sectors.ensures.size) c.in-Ok.ensures.geometry in
    mount_refused g.D.SectorDevice (are_limits_allowed c.args.limits.dirty_max c.args.limits.cache_blocks) c.args.moment c.args.device _ e (sized, c.in-Ok.ensures.limits)
    (holds_outside c.new-cached.ensures.device c.into_parts-device-in-Err-mount_pool.ensures.device
    (λ old new. IsMountRefused g.D.SectorDevice.keeps_model c.args.moment (g.D.SectorDevice.disk old) (g.D.SectorDevice.disk new) e) c.in-Err-mount_pool.ensures.refused)
