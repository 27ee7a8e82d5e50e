use Rattle.std.proofs.Common.{◌∙◌, arith, refl}
use Rattle.std.proofs.lemmas.Result.{IfOk-weaker}
use Rattle.plan_clients.proofs.trees.a_planned_object_has_its_new_length.Goals as goal

pub returns-clause-new : goal.returns-clause-new
returns-clause-new g c = IfOk-weaker c.plan.result _ _ (λ p told. told 7 (omega arith) ∙ rw (c.requires.touched, c.requires.object) refl) c.plan.ensures.lengths

pub returns-clause-kept : goal.returns-clause-kept
returns-clause-kept g c = IfOk-weaker c.plan.result _ _ (λ p told. told 8 (omega arith) ∙ rw c.requires.untouched refl) c.plan.ensures.lengths
