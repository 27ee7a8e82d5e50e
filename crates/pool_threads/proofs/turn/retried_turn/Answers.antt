use Rattle.std.proofs.Common.{◌≡◌, ◌∙◌, ap, sym, subst}
use Rattle.std.specs.Prelude.{IfErr}
use Rattle.pool_core.specs.States.{shown}
use Rattle.pool_threads.proofs.Made.{stepped_by}
use Rattle.pool_threads.proofs.Turned.{grows_by_one}
use Rattle.pool_threads.specs.Views.{viewed_state}
use Rattle.pool_threads.proofs.turn.retried_turn.Goals as goal

pub put_back-requires-clause-grows : goal.put_back-requires-clause-grows
put_back-requires-clause-grows g c = grows_by_one _ _ _ _ _ _ c.requires.view c.step_noted-answer.ensures.stepped

pub returns-clause-stepped : goal.returns-clause-stepped
returns-clause-stepped g c = stepped_by _ _ _ _ _ _ _ c.requires.view c.step_noted-answer.ensures.stepped c.put_back.ensures.freed.1 c.put_back.ensures.turn

pub returns-clause-in_time : goal.returns-clause-in_time
returns-clause-in_time g c = λ last.
    let left = c.step_noted-answer.ensures.explains in
    let same = ap (λ v. (viewed_state v).shown) c.put_back.ensures.freed.1 ∙ ap (λ a. a.shown) left.state in
    subst (λ s. g.C.RetriedCall.is_in_vain c.args.call s → ⊥) (ap shown c.deref.ensures ∙ sym same) (c.may_pass-may_pass.ensures.in_time last)

pub returns-clause-for_good : goal.returns-clause-for_good
returns-clause-for_good g c = λ last.
    let left = c.step_noted-answer.ensures.explains in
    let same = ap (λ v. (viewed_state v).shown) c.put_back.ensures.freed.1 ∙ ap (λ a. a.shown) left.state in
    subst (λ s. IfErr c.step_noted-answer.result (λ e. e ≡ g.C.RetriedCall.retried → g.C.RetriedCall.is_in_vain c.args.call s)) (ap shown c.deref.ensures ∙ sym same) (c.may_pass-may_pass.ensures.for_good last)
