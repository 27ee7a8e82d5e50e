use Rattle.std.proofs.Common.{subst}
use Rattle.base.specs.declared.operation.Op.{Op}
use Rattle.contents.specs.Judging.{with_name}
use Rattle.contents.specs.Presence.{IsMadeFor}
use Rattle.contents.proofs.Judged.{create_judged, create_refused, change_judged, change_refused, made_of_needed, name_judged}
use Rattle.contents.proofs.judging.judge_after.Goals as goal

pub returns-then-has_after : goal.returns-then-has_after
returns-then-has_after g c = λ before made applies name.
    create_refused before (with_name (g.O.ObjectSource.objects c.args.objects.now) name) (applies name) c.in-Create.id c.args.op.now c.in-Create.is (c.if-has_after.ensures before (subst (λ (o : Op). IsMadeFor before o c.args.made) c.in-Create.is made) name)

pub returns-else-has_after : goal.returns-else-has_after
returns-else-has_after g c = λ before made applies name.
    create_judged before (with_name (g.O.ObjectSource.objects c.args.objects.now) name) (applies name) c.in-Create.id c.args.op.now c.in-Create.is (c.if-has_after.ensures before (subst (λ (o : Op). IsMadeFor before o c.args.made) c.in-Create.is made) name)

pub returns-else-not-has_after : goal.returns-else-not-has_after
returns-else-not-has_after g c = λ before made applies name.
    change_judged before (with_name (g.O.ObjectSource.objects c.args.objects.now) name) (applies name) c.in-Remove.id c.args.op.now c.in-Remove.is (c.if-not-has_after.ensures before (made_of_needed before c.args.made c.in-Remove.id c.args.op.now c.in-Remove.is made) name)

pub returns-then-not-has_after : goal.returns-then-not-has_after
returns-then-not-has_after g c = λ before made applies name.
    change_refused before (with_name (g.O.ObjectSource.objects c.args.objects.now) name) (applies name) c.in-Remove.id c.args.op.now c.in-Remove.is (c.if-not-has_after.ensures before (made_of_needed before c.args.made c.in-Remove.id c.args.op.now c.in-Remove.is made) name)

pub returns-in-SetName : goal.returns-in-SetName
returns-in-SetName g c = λ before made applies name.
    name_judged before (with_name (g.O.ObjectSource.objects c.args.objects.now) name) c.in-SetName.field-0 c.args.op.now c.in-SetName.is (applies name)
