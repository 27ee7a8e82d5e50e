use Rattle.std.proofs.Common.{sym, subst}
use Rattle.std.specs.Prelude.{IfOk}
use Rattle.std.proofs.lemmas.Result.{err_from_is_err_and}
use Rattle.group_plans.specs.declared.prepared.PreparedObjects.{PreparedObjects}
use Rattle.tree_plans.specs.Parts.{AreMapsRead}
use Rattle.tree_plans.specs.TreePlans.{HasLengths}
use Rattle.tree_plans.proofs.Room.{not_space}
use Rattle.group_plans.specs.SealedRecords.{prepared_objects}
use Rattle.group_plans.proofs.planning.plan_sealed.Goals as goal

pub returns-in_err-after-clause-full : goal.returns-in_err-after-clause-full
returns-in_err-after-clause-full c =
    let p = err_from_is_err_and c.from_residual.result c.from_residual.ensures.1 in
    rw (p.1, p.2) (record { fewer = λ no_space ranges. not_space _ c.in_err-after.ensures.refused no_space })

pub plan-requires-clause-maps : goal.plan-requires-clause-maps
plan-requires-clause-maps c =
    subst (λ (p : PreparedObjects). AreMapsRead c.args.read.now (prepared_objects p) c.args.objects.now.entries) (sym c.in_ok-after.ensures.prepared) c.requires.maps

pub returns-clause-lengths : goal.returns-clause-lengths
returns-clause-lengths c =
    subst (λ (p : PreparedObjects). IfOk c.plan.result (HasLengths c.args.read.now (prepared_objects p) c.args.objects.now)) c.in_ok-after.ensures.prepared c.plan.ensures.lengths
