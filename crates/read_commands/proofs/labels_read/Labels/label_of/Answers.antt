use Rattle.std.proofs.Common.{ℕ, List, arith, refl, subst}
use Rattle.read_commands.specs.ReadLabels.{HasGroupAt, arrays_of}
use Rattle.read_commands.proofs.ReadLabels.{none_more}
use Rattle.read_commands.proofs.labels_read.Labels.label_of.Goals as goal

pub loop-label-preserved : goal.loop-label-preserved
loop-label-preserved c =
    none_more (λ k. HasGroupAt (arrays_of c.args.self.now) k c.args.group) c.loop-label.label c.loop-label.invariant
    (subst (λ (l : List ℕ). HasGroupAt l c.loop-label.label c.args.group → ⊥) c.deref.ensures.value (c.if-has_group.ensures.none refl))

pub returns-clause-none : goal.returns-clause-none
returns-clause-none c = λ k low. c.loop-label.invariant k (let four = c.loop-label-test.false in omega (arith, low, four))
