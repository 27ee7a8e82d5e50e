use Rattle.std.proofs.Common.{◌≡◌, ◌∙◌, ◌*◌, ℕ, Bool, false, true, inl, inr, refl, subst, sym}
use Rattle.base.specs.kept.Imports.{are_limits_allowed}
use Rattle.base.specs.formats.Geometry.{IsGeometry, sector_size}
use Rattle.import_replay.specs.ImportRefusals.{IsImportRefusal}
use Rattle.import_replay.proofs.Reasons.{passed_on}
use Rattle.import_replay.proofs.importing.allowed_size.Goals as goal

pub returns-in_err-geometry-clause-refused : goal.returns-in_err-geometry-clause-refused
returns-in_err-geometry-clause-refused c =
    let x = c.in_err-geometry.field-0.0 in
    let is = c.in_err-geometry.ensures.refused in
    let size : ℕ = sector_size * c.args.sectors in
    let allowed : Bool = are_limits_allowed c.args.limits.dirty_max c.args.limits.cache_blocks in
    passed_on c.from_residual.result x _ c.from_residual.ensures.1
    (inl is, subst (λ e. IsImportRefusal size allowed e) (sym is) (λ sized. let no : false ≡ true = c.in_err-geometry.ensures.ok.1 sized in cc))

pub returns-then-not-are_limits_allowed-clause-refused : goal.returns-then-not-are_limits_allowed-clause-refused
returns-then-not-are_limits_allowed-clause-refused c = (inr refl, (c.in_ok-geometry.ensures.ok.0 refl, sym c.are_limits_allowed.ensures ∙ c.if-not-are_limits_allowed.true))

pub returns-clause-geometry : goal.returns-clause-geometry
returns-clause-geometry c = subst IsGeometry (sym c.in_ok-geometry.ensures.size) (c.in_ok-geometry.ensures.ok.0 refl)

pub returns-clause-limits : goal.returns-clause-limits
returns-clause-limits c = sym c.are_limits_allowed.ensures ∙ c.if-not-are_limits_allowed.false
