use Rattle.std.proofs.Common.{◌≡◌, ℕ, List, false, refl, subst, sym, true}
use Rattle.std.proofs.lemmas.Result.{IfErr-weaker}
use Rattle.base.specs.disk.Disk.{bytes_of}
use Rattle.base.specs.formats.Geometry.{IsGeometry}
use Rattle.import_replay.proofs.Reasons.{passed_on}
use Rattle.inspections.specs.ReadForInspection.{IsExaminedFor}
use Rattle.inspections.specs.declared.damages.ExaminedPool.{ExaminedPool}
use Rattle.inspections.proofs.PoolDamages.{find_walk}
use Rattle.inspections.proofs.Refused.{memory_refused, size_refused, walk_refused}
use Rattle.inspections.proofs.damages.find_damages.Goals as goal

pub judge_log-requires-clause-loaded : goal.judge_log-requires-clause-loaded
judge_log-requires-clause-loaded g c =
    let image : List ℕ = bytes_of (g.D.SectorDevice.disk c.args.device.now).now in
    (subst (λ (e : ExaminedPool). IsExaminedFor g.D.SectorDevice.keeps_model image c.in_ok-geometry.geometry e) c.in-Whole.is c.in_ok-examined.ensures.examined).loaded

pub judge_log-requires-clause-free : goal.judge_log-requires-clause-free
judge_log-requires-clause-free g c =
    let image : List ℕ = bytes_of (g.D.SectorDevice.disk c.args.device.now).now in
    (subst (λ (e : ExaminedPool). IsExaminedFor g.D.SectorDevice.keeps_model image c.in_ok-geometry.geometry e) c.in-Whole.is c.in_ok-examined.ensures.examined).free

pub returns-in-Whole-clause-found : goal.returns-in-Whole-clause-found
returns-in-Whole-clause-found g c = λ keeps.
    let image : List ℕ = bytes_of (g.D.SectorDevice.disk c.args.device.now).now in
    c.judge_log.ensures.found image
    ((subst (λ (e : ExaminedPool). IsExaminedFor g.D.SectorDevice.keeps_model image c.in_ok-geometry.geometry e) c.in-Whole.is c.in_ok-examined.ensures.examined).pool keeps)

pub returns-in-Whole-clause-refused : goal.returns-in-Whole-clause-refused
returns-in-Whole-clause-refused g c =
    let sized : IsGeometry (g.D.SectorDevice.size c.args.device.now) = subst IsGeometry c.sectors.ensures.size (c.in_ok-geometry.ensures.ok.0 refl) in
    IfErr-weaker c.judge_log.result _ _ (λ e is. memory_refused g.D.SectorDevice c.args.device.now _ e sized is) c.judge_log.ensures.refused

pub returns-in-Damaged-clause-found : goal.returns-in-Damaged-clause-found
returns-in-Damaged-clause-found g c = λ keeps.
    let image : List ℕ = bytes_of (g.D.SectorDevice.disk c.args.device.now).now in
    subst (λ (e : ExaminedPool). IsExaminedFor g.D.SectorDevice.keeps_model image c.in_ok-geometry.geometry e) c.in-Damaged.is c.in_ok-examined.ensures.examined keeps

pub returns-in_err-geometry-clause-refused : goal.returns-in_err-geometry-clause-refused
returns-in_err-geometry-clause-refused g c =
    let x = c.in_err-geometry.field-0.0 in
    let is = c.in_err-geometry.ensures.refused in
    passed_on c.from_residual.result x _ c.from_residual.ensures.1
    (size_refused g.D.SectorDevice c.args.device.now x is (λ sized. let no : false ≡ true = c.in_err-geometry.ensures.ok.1 (subst IsGeometry (sym c.sectors.ensures.size) sized) in cc))

pub returns-in_err-examined-clause-refused : goal.returns-in_err-examined-clause-refused
returns-in_err-examined-clause-refused g c =
    let end = c.from_residual-in_err-examined in
    let x = c.in_err-examined.field-0.0 in
    let told = c.in_err-examined.ensures in
    let sized : IsGeometry (g.D.SectorDevice.size c.args.device.now) = subst IsGeometry c.sectors.ensures.size (c.in_ok-geometry.ensures.ok.0 refl) in
    passed_on end.result x _ end.ensures.1 (walk_refused g.D.SectorDevice c.args.device.now _ x sized (find_walk x told.refused) told.reason)
