use Rattle.std.proofs.Common.{◌≡◌, ap, sym, ◌∙◌, refl, List, take}
use Rattle.std.proofs.lemmas.List.{take_all}
use Rattle.std.proofs.lemmas.Result.{err_from_is_err_and}
use Rattle.base.specs.declared.operation.Op.{Op}
use Rattle.base.specs.history.History.{apply_all}
use Rattle.contents.specs.Judging.{with_name}
use Rattle.contents.proofs.Judged.{judged_more, judged_refused}
use Rattle.contents.proofs.judging.judge_few.Goals as goal

pub loop-i-init : goal.loop-i-init
loop-i-init g c = λ name. (with_name (g.O.ObjectSource.objects c.args.objects.now) name, refl)

pub returns-in_err-judge_after : goal.returns-in_err-judge_after
returns-in_err-judge_after g c =
    let p = err_from_is_err_and c.from_residual.result c.from_residual.ensures.1 in
    rw (p.1, p.2) (λ name. judged_refused c.args.ops.now c.loop-i.i c.index-ops-i.result (with_name (g.O.ObjectSource.objects c.args.objects.now) name) c.in_err-judge_after.field-0.0
    c.loop-i-test.true c.index-ops-i.is (c.in_err-judge_after.ensures (take c.loop-i.i c.args.ops.now) c.made_for.ensures c.loop-i.invariant name))

pub loop-i-preserved : goal.loop-i-preserved
loop-i-preserved g c = λ name.
    judged_more c.args.ops.now c.loop-i.i c.index-ops-i.result (with_name (g.O.ObjectSource.objects c.args.objects.now) name) c.loop-i-test.true c.index-ops-i.is
    (c.in_ok-judge_after.ensures (take c.loop-i.i c.args.ops.now) c.made_for.ensures c.loop-i.invariant name)

pub returns : goal.returns
returns g c = λ name.
    let whole : take c.loop-i.i c.args.ops.now ≡ c.args.ops.now = take_all c.loop-i.i c.args.ops.now c.loop-i-test.false in
    let done = c.loop-i.invariant name in
    (done.0, ap (λ (l : List Op). apply_all l (with_name (g.O.ObjectSource.objects c.args.objects.now) name)) (sym whole) ∙ done.1)
