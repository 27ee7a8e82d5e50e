use Rattle.std.proofs.Common.{◌≡◌, ℕ, List, false, true, refl, subst, sym}
use Rattle.std.proofs.lemmas.Result.{IfOk-weaker}
use Rattle.base.specs.disk.Disk.{bytes_of}
use Rattle.base.specs.formats.Geometry.{IsGeometry}
use Rattle.import_replay.proofs.Reasons.{passed_on}
use Rattle.inspections.proofs.Refused.{records_refused, size_refused, walk_refused}
use Rattle.inspections.proofs.inspection.inspect.Goals as goal

pub returns-clause-mounted : goal.returns-clause-mounted
returns-clause-mounted g c = λ keeps.
    let image : List ℕ = bytes_of (g.D.SectorDevice.disk c.args.device.now).now in
    IfOk-weaker c.report.result _ _ (λ i both. both.0) (c.report.ensures.mounted image (c.in_ok-found.ensures.pool keeps))

pub returns-clause-agrees : goal.returns-clause-agrees
returns-clause-agrees g c = λ keeps.
    let image : List ℕ = bytes_of (g.D.SectorDevice.disk c.args.device.now).now in
    IfOk-weaker c.report.result _ _ (λ i both. both.1) (c.report.ensures.mounted image (c.in_ok-found.ensures.pool keeps))

pub returns-in_err-geometry-clause-refused : goal.returns-in_err-geometry-clause-refused
returns-in_err-geometry-clause-refused g c =
    let x = c.in_err-geometry.field-0.0 in
    let is = c.in_err-geometry.ensures.refused in
    passed_on c.from_residual.result x _ c.from_residual.ensures.1
    (size_refused g.D.SectorDevice c.args.device.now x is (λ sized. let no : false ≡ true = c.in_err-geometry.ensures.ok.1 (subst IsGeometry (sym c.sectors.ensures.size) sized) in cc))

pub returns-in_err-found-clause-refused : goal.returns-in_err-found-clause-refused
returns-in_err-found-clause-refused g c =
    let x = c.in_err-found.field-0.0 in
    let sized : IsGeometry (g.D.SectorDevice.size c.args.device.now) = subst IsGeometry c.sectors.ensures.size (c.in_ok-geometry.ensures.ok.0 refl) in
    passed_on c.from_residual-in_err-found.result x _ c.from_residual-in_err-found.ensures.1
    (walk_refused g.D.SectorDevice c.args.device.now _ x sized c.in_err-found.ensures.refused c.in_err-found.ensures.reason)

pub returns-clause-refused : goal.returns-clause-refused
returns-clause-refused g c =
    let image : List ℕ = bytes_of (g.D.SectorDevice.disk c.args.device.now).now in
    let sized : IsGeometry (g.D.SectorDevice.size c.args.device.now) = subst IsGeometry c.sectors.ensures.size (c.in_ok-geometry.ensures.ok.0 refl) in
    records_refused g.D.SectorDevice c.args.device.now _ c.report.result sized c.report.ensures.cause (λ keeps. c.report.ensures.damaged image (c.in_ok-found.ensures.pool keeps))
