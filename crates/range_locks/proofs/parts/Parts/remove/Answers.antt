use Rattle.range_locks.proofs.parts.Parts.remove.Goals as goal

pub returns : goal.returns
returns c = λ f is. rw (← c.of_release.ensures) (c.remove_end-2.ensures _ (c.remove_end.ensures _ (c.recount.ensures f is)))
