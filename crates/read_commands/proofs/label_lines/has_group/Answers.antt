use Rattle.std.proofs.Common.{sym, ◌∙◌}
use Rattle.std.proofs.lemmas.Bool.{eq-eqb, eqb-true, true≢false}
use Rattle.read_commands.proofs.ReadLabels.{group_there, none_there, other_there}
use Rattle.read_commands.proofs.label_lines.has_group.Goals as goal

pub returns-in-Some-clause-there : goal.returns-in-Some-clause-there
returns-in-Some-clause-there c = λ yes.
    let u = c.in-Some.uberblock in
    group_there c.args.ring.now c.args.label c.slot.result c.args.group c.slot.ensures u c.in-Some.ensures.some (eqb-true u.group.0 c.args.group.0 yes)

pub returns-in-Some-clause-none : goal.returns-in-Some-clause-none
returns-in-Some-clause-none c = λ no.
    let u = c.in-Some.uberblock in
    other_there c.args.ring.now c.args.label c.slot.result c.args.group c.slot.ensures u c.in-Some.ensures.some (λ same. true≢false (sym (eq-eqb u.group.0 c.args.group.0 same) ∙ no))

pub returns-in-None-clause-none : goal.returns-in-None-clause-none
returns-in-None-clause-none c = λ no. none_there c.args.ring.now c.args.label c.slot.result c.args.group c.slot.ensures c.in-None.ensures.none
