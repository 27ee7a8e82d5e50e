use Rattle.std.proofs.Common.{arith, btree_map_len, inl, inr, sym}
use Rattle.std.proofs.lemmas.Bool.{cases_lt, true≢false}
use Rattle.tree_blocks.proofs.ReadPointers.{none_read, none_read_past}
use Rattle.tree_blocks.proofs.object_map.ObjectMap.read_end.Goals as goal

pub returns-in-Some-clause-past : goal.returns-in-Some-clause-past
returns-in-Some-clause-past c = λ j from low. none_read_past c.args.self.now.strips c.in-Some.last.now j c.in-Some.ensures.greatest (omega (arith, from, low, c.min.ensures, c.saturating_add.ensures))

pub returns-in-None-clause-past : goal.returns-in-None-clause-past
returns-in-None-clause-past c = λ j from low. elim (cases_lt 0 (btree_map_len c.args.self.now.strips)) [
  | inl some ↦ absurd (true≢false (sym (c.in-None.ensures.variant.1 some)))
  | inr none ↦ none_read c.args.self.now.strips j (omega (arith, none))
]
