use Rattle.std.proofs.Common.{refl, sym}
use Rattle.range_locks.specs.Locks.{grant_of}
use Rattle.range_locks.proofs.CountedLocks.{let_go_counted, found_ordered, found_counted}
use Rattle.range_locks.proofs.Names.{held_named, map-remove_entry}
use Rattle.range_locks.proofs.locks.RangeLocks.unlock.Goals as goal

pub remove-requires-clause-ordered : goal.remove-requires-clause-ordered
remove-requires-clause-ordered c =
    found_ordered _ c.self.inside.numbers.parts c.self.invariant c.args.id.0 c.args.owner.0 (grant_of (c.args.id, c.in-Some.lock.now)) (rw (← c.self.view_is) at (sym c.in-Some.ensures))

pub remove-requires-clause-counted : goal.remove-requires-clause-counted
remove-requires-clause-counted c =
    found_counted _ c.self.inside.numbers.parts c.self.invariant c.args.id.0 c.args.owner.0 (grant_of (c.args.id, c.in-Some.lock.now)) (rw (← c.self.view_is) at (sym c.in-Some.ensures))

pub invariant_of-self : goal.invariant_of-self
invariant_of-self c =
    rw (c.let_go.ensures.entries, c.let_go.ensures.next, map-remove_entry c.args.id.0 c.self.inside.held.entries c.self.invariant.are.rising)
    (let_go_counted _ c.self.inside.numbers.parts c.self.invariant c.args.id.0 c.args.owner.0 (grant_of (c.args.id, c.in-Some.lock.now)) (rw (← c.self.view_is) at (sym c.in-Some.ensures)) c.remove.new.self.parts (c.remove.ensures.removed _ (c.self.invariant.is c.in-Some.lock.now.range.object.0)) c.remove.ensures.others)

pub returns-clause-let_go : goal.returns-clause-let_go
returns-clause-let_go c = rw (← c.self.view_is, c.let_go.ensures.entries, c.let_go.ensures.next, map-remove_entry c.args.id.0 c.self.inside.held.entries c.self.invariant.are.rising) refl

pub let_go-requires : goal.let_go-requires
let_go-requires c = held_named c.args.id.0 c.args.owner.0 c.self.inside.held.entries c.self.invariant.are.rising (grant_of (c.args.id, c.in-Some.lock.now)) (rw (← c.self.view_is) at (sym c.in-Some.ensures))
