use Rattle.scripts.proofs.place.Place.create.Goals as goal

pub returns-in-Ok-clause-kept : goal.returns-in-Ok-clause-kept
returns-in-Ok-clause-kept g c = λ keep done. c.in-Ok.ensures.left keep

pub returns-in-Ok-clause-creates : goal.returns-in-Ok-clause-creates
returns-in-Ok-clause-creates g c = record { size = c.in-Ok.ensures.size; counted = c.in-Ok.ensures.count; written = λ keep. (c.in-Ok.ensures.created keep).written }

pub returns-in-Err-clause-creates : goal.returns-in-Err-clause-creates
returns-in-Err-clause-creates g c = rw (c.give_back.ensures.refused, c.give_back.ensures.device)
    (let left = c.in-Err.ensures in record { size = left.size; refused = left.refused.kind; counted = left.count; untouched = left.refused.untouched })
