use Rattle.std.proofs.Common.{nat_eq}
use Rattle.std.specs.Prelude.{Some}
use Rattle.indexmap.proofs.CallerLemmas.{insert_entry-new}
use Rattle.base.specs.declared.names.LockId.{LockId}
use Rattle.range_locks.proofs.Places.{held_in-push, new_name, pushed_are}
use Rattle.range_locks.proofs.table.HeldTable.insert.Goals as goal

pub invariant_of-self : goal.invariant_of-self
invariant_of-self c =
    let last = insert_entry-new (λ (a b : LockId). nat_eq a.0 b.0) c.self.inside.places (record { 0 = c.self.inside.next }) (Some c.args.lock) (new_name c.self.inside.next c.self.inside.places.entries c.self.invariant.named) in
    rw (rw c.unwrap.ensures at c.insert.ensures.entries, last) (pushed_are c.self.inside.places.entries c.self.inside.count c.self.inside.next c.self.invariant c.args.lock)

pub returns-clause-entries : goal.returns-clause-entries
returns-clause-entries c =
    let last = insert_entry-new (λ (a b : LockId). nat_eq a.0 b.0) c.self.inside.places (record { 0 = c.self.inside.next }) (Some c.args.lock) (new_name c.self.inside.next c.self.inside.places.entries c.self.invariant.named) in
    rw (← c.self.view_is, rw c.unwrap.ensures at c.insert.ensures.entries, last) (held_in-push c.self.inside.places.entries (record { 0 = c.self.inside.next }) c.args.lock)
