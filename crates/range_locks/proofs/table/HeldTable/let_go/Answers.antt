use Rattle.std.proofs.Common.{◌<◌, ◌*◌, length, sym, subst, arith}
use Rattle.std.specs.Prelude.{None, IsSome}
use Rattle.base.specs.formats.Limits.{max_locks}
use Rattle.range_locks.proofs.Places.{emptied_are, emptied_swept_are, held_in-emptied, held_in-emptied_swept, place_there, some_lent}
use Rattle.range_locks.proofs.table.HeldTable.let_go.Goals as goal

pub unwrap-requires : goal.unwrap-requires
unwrap-requires c =
    let there = place_there c.args.id.0 c.self.inside.places.entries c.self.invariant.rising (rw (← c.self.view_is) at c.requires) in
    some_lent c.get_mut.result (subst IsSome (sym c.get_mut.ensures.value) there)

pub invariant_of-self : goal.invariant_of-self
invariant_of-self c =
    let writes = c.get_mut.follows.holds None in
    rw (c.sweep.ensures, writes.0) (emptied_swept_are c.self.inside.places.entries c.self.inside.count c.self.inside.next c.self.invariant c.args.id.0 (rw (← c.self.view_is) at c.requires))

pub invariant_of-self-else-len : goal.invariant_of-self-else-len
invariant_of-self-else-len c =
    let writes = c.get_mut.follows.holds None in
    let few : length (c.get_mut.follows.lender None).entries < 2 * max_locks = omega (arith, c.len.ensures.len, c.if-len.false) in
    rw writes.0 (emptied_are c.self.inside.places.entries c.self.inside.count c.self.inside.next c.self.invariant c.args.id.0 (rw (← c.self.view_is) at c.requires) (rw writes.0 at few))

pub returns-then-len-clause-entries : goal.returns-then-len-clause-entries
returns-then-len-clause-entries c =
    let writes = c.get_mut.follows.holds None in
    rw (← c.self.view_is, c.sweep.ensures, writes.0) (held_in-emptied_swept c.self.inside.places.entries c.self.inside.count c.self.inside.next c.self.invariant c.args.id.0 (rw (← c.self.view_is) at c.requires))

pub returns-else-len-clause-entries : goal.returns-else-len-clause-entries
returns-else-len-clause-entries c =
    let writes = c.get_mut.follows.holds None in
    rw (← c.self.view_is, writes.0) (held_in-emptied c.args.id.0 c.self.inside.places.entries c.self.invariant.rising)
