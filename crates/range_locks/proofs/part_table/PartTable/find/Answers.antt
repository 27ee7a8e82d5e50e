use Rattle.std.proofs.Common.{rules}
use Rattle.std.proofs.lemmas.List.Sorted.{answers_always}
use Rattle.range_locks.proofs.PartRows.{searched}
use Rattle.range_locks.proofs.part_table.PartTable.find.Goals as goal

-- the closure gives where a row begins
pub returns-clause-found : goal.returns-clause-found
returns-clause-found c =
    let facts = c.binary_search_by_key.ensures in
    let by_begin = facts.position (λ row. row.0) (answers_always _ _ _ (λ f a r g called. search rules)) in
    rw (← c.self.view_is, ← c.deref.ensures.value) (searched c.args.at c.deref.result.now (rw c.deref.ensures.value c.self.invariant) _ facts.bound by_begin).0

pub returns-clause-absent : goal.returns-clause-absent
returns-clause-absent c =
    let facts = c.binary_search_by_key.ensures in
    let by_begin = facts.position (λ row. row.0) (answers_always _ _ _ (λ f a r g called. search rules)) in
    rw (← c.self.view_is, ← c.deref.ensures.value) (searched c.args.at c.deref.result.now (rw c.deref.ensures.value c.self.invariant) _ facts.bound by_begin).1
