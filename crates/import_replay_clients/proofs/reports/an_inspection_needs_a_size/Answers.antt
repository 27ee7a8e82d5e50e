use Rattle.std.proofs.Common.{◌≡◌, ℕ, true, false, subst}
use Rattle.std.proofs.lemmas.Result.{IfErr-weaker}
use Rattle.base.specs.formats.Geometry.{IsGeometry}
use Rattle.inspections.specs.Refused.{IsInspectionRefusal}
use Rattle.import_replay_clients.proofs.Promises.{by_size, inspection_untouched, is_refused}
use Rattle.import_replay_clients.proofs.reports.an_inspection_needs_a_size.Goals as goal

pub returns-clause-refused : goal.returns-clause-refused
returns-clause-refused g c = is_refused c.inspect.result _ c.inspect.ensures.made (λ is. let no : false ≡ true = subst IsGeometry c.requires is in cc)

pub returns-clause-reason : goal.returns-clause-reason
returns-clause-reason g c = IfErr-weaker c.inspect.result _ _ (λ e told. by_size e (subst (λ (n : ℕ). IsInspectionRefusal n e) c.requires told.kind)) c.inspect.ensures.refused

pub returns-clause-unchanged : goal.returns-clause-unchanged
returns-clause-unchanged g c = inspection_untouched g.D.SectorDevice c.inspect.result _ _ c.requires c.inspect.ensures.made c.inspect.ensures.refused
