use Rattle.benchmarks.proofs.Counted.{time_of_slot, time_within}
use Rattle.benchmarks.proofs.call_times.CallTimes.time_at.Goals as goal

pub returns-in-Some-clause-ranked : goal.returns-in-Some-clause-ranked
returns-in-Some-clause-ranked c = λ _ few.
    let fields = c.self.inside in
    let times = fields.times.value in
    let at = rw c.as_slice.ensures.value at c.in-Some.ensures.found in
    let found = time_of_slot times fields.counts.items fields.calls fields.longest c.in-Some.slot c.args.rank c.longest_of.result c.self.invariant at c.longest_of.ensures.last c.longest_of.ensures.near in
    let within = rw (← c.self.view_is) at few in
    rw (← c.self.view_is) (rw c.min.ensures (rw c.self.invariant.most (time_within times c.args.rank c.longest_of.result within found)))
