use Rattle.std.proofs.Common.{arith, btree_set_len, inl, inr, sym}
use Rattle.std.proofs.lemmas.Bool.{cases_lt, true≢false}
use Rattle.tree_plans.proofs.DirtyStrips.{none_of_none, none_past}
use Rattle.tree_plans.proofs.changes.ObjectChanges.written_end.Goals as goal

pub returns-in-Some-clause-past : goal.returns-in-Some-clause-past
returns-in-Some-clause-past c = λ j from low. none_past c.args.self.now c.in-Some.last.now j c.in-Some.ensures.greatest (omega (arith, from, low, c.min.ensures))

pub returns-in-None-clause-past : goal.returns-in-None-clause-past
returns-in-None-clause-past c = λ j from low. elim (cases_lt 0 (btree_set_len c.args.self.now.dirty)) [
  | inl some ↦ absurd (true≢false (sym (c.in-None.ensures.variant.1 some)))
  | inr none ↦ none_of_none c.args.self.now j (omega (arith, none))
]
