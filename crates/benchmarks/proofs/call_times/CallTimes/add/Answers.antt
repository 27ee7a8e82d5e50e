use Rattle.std.proofs.Common.{◌≡◌, ◌+◌, ◌∙◌, ℕ, List, arith, length, ap}
use Rattle.std.specs.Prelude.{sum}
use Rattle.benchmarks.proofs.Counted.{counted_added, written_whole}
use Rattle.benchmarks.specs.Sums.{AreSums}
use Rattle.benchmarks.proofs.call_times.CallTimes.add.Goals as goal

pub invariant_of-self : goal.invariant_of-self
invariant_of-self c =
    let old = c.self.inside in
    let others = c.others.inside in
    let new : List ℕ = c.add_counts.new.counts in
    let size : length new ≡ length old.counts.items = c.add_counts.ensures.slots ∙ ap (λ (l : List ℕ). length l) c.as_mut_slice.ensures.value in
    let whole = written_whole new old.counts.items old.counts.len size (omega (arith, old.counts.ok.0)) in
    let calls : c.in-Some.calls ≡ old.calls + others.calls = omega (arith, c.in-Some.ensures) in
    let each : AreSums old.counts.items others.counts.items new = rw c.as_slice.ensures.value at (rw c.as_mut_slice.ensures.value at c.add_counts.ensures.each) in
    let all : sum new ≡ sum old.counts.items + sum others.counts.items = rw c.as_slice.ensures.value at (rw c.as_mut_slice.ensures.value at c.add_counts.ensures.calls) in
    rw c.with_times.ensures (
    rw whole (
    rw calls (
    rw c.max-self-inside.ensures (counted_added old.times.value old.counts.items old.calls old.longest others.times.value others.counts.items others.calls others.longest new c.self.invariant c.others.invariant size each all)
    )
    )
    )
