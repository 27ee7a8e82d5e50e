use Rattle.std.proofs.Common.{ap, sym, ◌∙◌, ◌+◌, Some, arith}
use Rattle.range_locks.specs.declared.parts.Part.{Part}
use Rattle.range_locks.specs.Parts.{stored_part, with_end}
use Rattle.range_locks.proofs.Updates.{updated, stored-some, with_end-here, with_end-apart}
use Rattle.range_locks.proofs.parts.Parts.add_end.Goals as goal

pub returns-clause-added : goal.returns-clause-added
returns-clause-added c = λ f is still.
    updated c.args.self.now.table c.insert.new.self c.args.at _ f (with_end c.args.at f) is c.in_ok-insert.ensures.inserted
    (ap (λ (p : Part). Some (record p { ends = p.ends + 1 })) (c.part_at-part.ensures f is still) ∙ sym (ap stored_part (with_end-here c.args.at f) ∙ stored-some _ (omega arith)))
    (with_end-apart c.args.at f)

pub overflow_add-ends : goal.overflow_add-ends
overflow_add-ends c =
    let was = c.requires in let small = was.small c.args.at in
    let same = ap (λ (p : Part). p.ends) (c.part_at-part.ensures was.counts was.is was.still) in
    omega (arith, same, small.0)
