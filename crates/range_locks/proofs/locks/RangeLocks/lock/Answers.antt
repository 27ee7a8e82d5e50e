use Rattle.std.proofs.Common.{◌≡◌, [], ◌∷◌, ap, map, refl, sym, ◌∙◌, arith}
use Rattle.base.specs.history.Plans.{number_range}
use Rattle.std.proofs.lemmas.List.{length-map, map-append}
use Rattle.range_locks.specs.Locks.{grant_of}
use Rattle.range_locks.proofs.LockCounts.{counts_still}
use Rattle.range_locks.proofs.CountedLocks.{granted_counted, kept_counted, numbers_small}
use Rattle.range_locks.proofs.locks.RangeLocks.lock.Goals as goal

pub add-requires-clause-counted : goal.add-requires-clause-counted
add-requires-clause-counted c = numbers_small _ c.self.inside.numbers.parts c.self.invariant c.args.range.object.0

pub invariant_of-self-in_err-add : goal.invariant_of-self-in_err-add
invariant_of-self-in_err-add c =
    let number = c.args.range.object.0 in
    let same = c.in_err-add.ensures.unchanged _ (c.self.invariant.is number) (counts_still number (map grant_of c.self.inside.held.entries)) in
    rw (c.make_room.ensures.entries, c.make_room.ensures.next) (kept_counted _ c.self.inside.numbers.parts c.self.invariant c.add.new.self.parts number same c.add.ensures.others)

pub invariant_of-self-2 : goal.invariant_of-self-2
invariant_of-self-2 c =
    let last = map-append grant_of c.self.inside.held.entries ((c.insert.result, record { owner = c.args.owner; range = c.args.range; mode = c.args.mode }) ∷ []) in
    let name = c.insert.ensures.name ∙ c.make_room.ensures.next in
    let id : c.next_name-id.result ≡ record { 0 = c.self.inside.held.next } = ap (λ n. record { 0 = n }) (c.next_name-id.ensures ∙ c.make_room.ensures.next) in
    let count = length-map c.self.inside.held.entries grant_of in
    rw (c.insert.ensures.entries, c.insert.ensures.next, c.make_room.ensures.entries, c.make_room.ensures.next, last, name) (granted_counted _ c.self.inside.numbers.parts c.self.invariant c.add.new.self.parts c.args.owner.0 (number_range c.args.range) c.args.mode
    (sym c.is_allowed.ensures.allowed ∙ c.if-not-is_allowed.false) (sym (c.blocks-2.ensures _ c.self.invariant) ∙ c.if-blocks.false) (omega (arith, count)) (omega arith)
    (rw id at (c.in_ok-add.ensures.added _ (c.self.invariant.is c.args.range.object.0) (counts_still c.args.range.object.0 (map grant_of c.self.inside.held.entries)))) c.add.ensures.others)

pub returns-clause-granted : goal.returns-clause-granted
returns-clause-granted c =
    let last = map-append grant_of c.self.inside.held.entries ((c.insert.result, record { owner = c.args.owner; range = c.args.range; mode = c.args.mode }) ∷ []) in
    let name = c.insert.ensures.name ∙ c.make_room.ensures.next in
    rw (← c.self.view_is, c.insert.ensures.entries, c.insert.ensures.next, c.make_room.ensures.entries, c.make_room.ensures.next, last, name) (record { name = refl; granted = refl })
