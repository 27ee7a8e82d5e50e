use Rattle.std.proofs.Common.{ap, sym, ◌∙◌}
use Rattle.range_locks.proofs.Places.{in_place, lookup-held_in}
use Rattle.range_locks.proofs.table.HeldTable.get.Goals as goal

pub returns-in-Some : goal.returns-in-Some
returns-in-Some c =
    let found = ap in_place c.in-Some.ensures.value ∙ sym (lookup-held_in c.args.id.0 c.self.inside.places.entries c.self.invariant.rising) in
    rw (← c.self.view_is) (record { value = c.as_ref.ensures.value ∙ found })

pub returns-in-None : goal.returns-in-None
returns-in-None c =
    let found = ap in_place c.in-None.ensures.value ∙ sym (lookup-held_in c.args.id.0 c.self.inside.places.entries c.self.invariant.rising) in
    rw (← c.self.view_is) (record { value = found })
