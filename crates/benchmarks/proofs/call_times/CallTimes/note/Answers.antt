use Rattle.std.proofs.Common.{◌≡◌, ◌+◌, ◌<◌, ℕ, List, arith, length, get_or}
use Rattle.std.proofs.lemmas.List.{get_or_read}
use Rattle.benchmarks.proofs.Counted.{counted_noted}
use Rattle.benchmarks.proofs.call_times.CallTimes.note.Goals as goal

pub invariant_of-self : goal.invariant_of-self
invariant_of-self c =
    let old = c.self.inside in
    let counts : List ℕ = old.counts.items in
    let slot = c.slot_of-slot.result in
    let low : slot < length counts = omega (arith, c.slot_of-slot.ensures.within, c.self.invariant.slots) in
    let calls : c.in-Some.calls ≡ old.calls + 1 = omega (arith, c.in-Some.ensures) in
    let count : c.index_mut.result.now ≡ get_or counts slot 0 = get_or_read counts _ _ low c.index_mut.ensures.value 0 in
    rw c.with_time.ensures (
    rw calls (
    rw c.max-self-inside.ensures (rw count (counted_noted c.args.time slot old.calls old.longest old.times.value counts c.slot_of-slot.ensures.has c.slot_of-slot.ensures.within c.self.invariant))
    )
    )
