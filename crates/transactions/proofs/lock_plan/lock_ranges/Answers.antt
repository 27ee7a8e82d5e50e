use Rattle.std.proofs.Common.{sym}
use Rattle.transactions.proofs.JoinedRanges.{sorted_are_locked}
use Rattle.transactions.proofs.lock_plan.lock_ranges.Goals as goal

pub returns : goal.returns
returns c =
    let sorted = c.in_ok-sorted.sorted.items in
    let locked = sorted_are_locked c.args.plan.now sorted (sym c.if-not-have_bytes.ensures) c.in_ok-sorted.ensures.order c.in_ok-sorted.ensures.ranges in
    rw (c.deref.ensures.value, locked) at c.joined_neighbours.ensures
