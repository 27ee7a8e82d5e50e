use Rattle.std.proofs.Common.{◌≡◌, ap, sym, ◌∙◌, refl, List, take}
use Rattle.std.proofs.lemmas.List.{take_all}
use Rattle.std.proofs.lemmas.Result.{err_from_is_err_and}
use Rattle.base.specs.declared.operation.Op.{Op}
use Rattle.base.specs.history.History.{apply_all}
use Rattle.base.specs.formats.Limits.{object_count}
use Rattle.contents.specs.Judging.{with_name}
use Rattle.contents.proofs.Judged.{judged_more, judged_refused, none_noted, noted_more}
use Rattle.contents.proofs.judging.judge_many.Goals as goal

pub loop-op-init : goal.loop-op-init
loop-op-init g c = (refl, (none_noted object_count refl, λ name. (with_name (g.O.ObjectSource.objects c.args.objects.now) name, refl)))

pub returns-in_err-judge_after : goal.returns-in_err-judge_after
returns-in_err-judge_after g c =
    let p = err_from_is_err_and c.from_residual.result c.from_residual.ensures.1 in
    let held = c.loop-op.invariant in
    rw (p.1, p.2) (λ name. judged_refused c.args.ops.now c.loop-op.op-index c.op-item.result (with_name (g.O.ObjectSource.objects c.args.objects.now) name) c.in_err-judge_after.field-0.0
    c.loop-op-test.true c.op-item.is (c.in_err-judge_after.ensures (take c.loop-op.op-index c.args.ops.now) (c.noted_for.ensures (take c.loop-op.op-index c.args.ops.now) held.1.0) held.1.1 name))

pub loop-op-preserved : goal.loop-op-preserved
loop-op-preserved g c =
    let held = c.loop-op.invariant in (
      c.note.ensures.length,
      (
        noted_more c.args.ops.now c.loop-op.op-index c.op-item.result c.note.new.noted c.loop-op-test.true c.op-item.is (c.note.ensures.noted (take c.loop-op.op-index c.args.ops.now) held.1.0),
        λ name. judged_more c.args.ops.now c.loop-op.op-index c.op-item.result (with_name (g.O.ObjectSource.objects c.args.objects.now) name) c.loop-op-test.true c.op-item.is
            (c.in_ok-judge_after.ensures (take c.loop-op.op-index c.args.ops.now) (c.noted_for.ensures (take c.loop-op.op-index c.args.ops.now) held.1.0) held.1.1 name),
      ),
    )

pub returns : goal.returns
returns g c = λ name.
    let whole : take c.loop-op.op-index c.args.ops.now ≡ c.args.ops.now = take_all c.loop-op.op-index c.args.ops.now c.loop-op-test.false in
    let done = c.loop-op.invariant.1.1 name in
    (done.0, ap (λ (l : List Op). apply_all l (with_name (g.O.ObjectSource.objects c.args.objects.now) name)) (sym whole) ∙ done.1)
