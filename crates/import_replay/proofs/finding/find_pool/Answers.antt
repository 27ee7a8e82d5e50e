use Rattle.std.proofs.Common.{◌≡◌, ℕ, List, length, sym, subst, ◌∙◌}
use Rattle.base.specs.disk.Disk.{Disk, bytes_of}
use Rattle.base.specs.formats.Geometry.{IsGeometry}
use Rattle.uberblocks.specs.Slots.{fields_of}
use Rattle.import_replay.specs.Found.{HasFirstStage, HasName, LacksName}
use Rattle.import_replay.specs.ImportRefusals.{IsReason}
use Rattle.import_replay.specs.LabelSyncs.{is_even}
use Rattle.import_replay.proofs.Reasons.{passed_on, reason-uberblock, reason-name}
use Rattle.import_replay.proofs.finding.find_pool.Goals as goal

pub returns-in_err-uberblock-clause-reason : goal.returns-in_err-uberblock-clause-reason
returns-in_err-uberblock-clause-reason g c = λ keeps.
    let image : List ℕ = bytes_of (g.D.SectorDevice.disk c.args.device.now).now in
    let x = c.in_err-uberblock.field-0.0 in
    passed_on c.from_residual.result x (IsReason image) c.from_residual.ensures.1
    (reason-uberblock image x c.in_err-uberblock.ensures.refused (c.in_err-uberblock.ensures.none keeps))

pub returns-in_err-name-clause-reason : goal.returns-in_err-name-clause-reason
returns-in_err-name-clause-reason g c = λ keeps.
    let image : List ℕ = bytes_of (g.D.SectorDevice.disk c.args.device.now).now in
    let u = c.in_ok-uberblock.uberblock in
    let x = c.in_err-name.field-0.0 in
    passed_on c.from_residual-in_err-name.result x (IsReason image) c.from_residual-in_err-name.ensures.1
    (reason-name image (fields_of u) x c.in_err-name.ensures.refused (c.in_ok-uberblock.ensures.active keeps)
    (subst (λ (d : Disk). LacksName (bytes_of d.now) u.guid u.group.0 x) (c.read_uberblock.ensures.reads.disk keeps) (c.in_err-name.ensures.none keeps)))

pub returns-clause-pool : goal.returns-clause-pool
returns-clause-pool g c = λ keeps.
    let image : List ℕ = bytes_of (g.D.SectorDevice.disk c.args.device.now).now in
    let u = c.in_ok-uberblock.uberblock in
    let long : length image ≡ c.args.geometry = g.met.D.SectorDevice.sized keeps c.args.device.now ∙ c.requires.sized.size in
    let name : HasName image u.guid u.group.0 c.in_ok-name.name =
    subst (λ (d : Disk). HasName (bytes_of d.now) u.guid u.group.0 c.in_ok-name.name) (c.read_uberblock.ensures.reads.disk keeps) (c.in_ok-name.ensures.name keeps) in
    record {
      geometry = subst (λ n. IsGeometry n) (sym long) c.requires.sized.geometry;
      active = c.in_ok-uberblock.ensures.active keeps;
      config_group = name.0;
      chosen = name.1;
    }

pub returns-clause-first : goal.returns-clause-first
returns-clause-first g c = λ keeps.
    let u = c.in_ok-uberblock.uberblock in
    subst (λ (d : Disk). HasFirstStage (bytes_of d.now) u.guid u.group.0 c.in_ok-name.name (is_even c.in_ok-name.first)) (c.read_uberblock.ensures.reads.disk keeps) (c.in_ok-name.ensures.first keeps)
