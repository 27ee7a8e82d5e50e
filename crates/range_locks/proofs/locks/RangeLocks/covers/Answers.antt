use Rattle.std.proofs.Common.{ap, map, sym, ◌∙◌}
use Rattle.base.specs.history.Plans.{number_range}
use Rattle.base.proofs.common.KeptLists.{any_map}
use Rattle.range_locks.specs.declared.parts.Part.{Part}
use Rattle.range_locks.specs.Locks.{covers, grant_of}
use Rattle.range_locks.proofs.LockCounts.{counts_still}
use Rattle.range_locks.proofs.Writers.{nothing_covers, writer_covers}
use Rattle.range_locks.proofs.locks.RangeLocks.covers.Goals as goal

pub returns : goal.returns
returns c = rw (← c.self.view_is) (c.any_covers.ensures ∙ sym (any_map (covers c.args.owner.0 (number_range c.args.range.now)) grant_of c.self.inside.held.entries))

pub returns-in-Some : goal.returns-in-Some
returns-in-Some c =
    let number = c.args.range.now.object.0 in
    let part = sym (c.part_at-part.ensures _ (c.self.invariant.is number) (counts_still number (map grant_of c.self.inside.held.entries))) in
    let covers = rw (← c.self.view_is) at c.lock_covers.ensures in
    rw (← c.self.view_is) (covers ∙ writer_covers _ c.self.invariant.are c.args.owner.0 (number_range c.args.range.now) c.if-range.true c.in-Some.id (ap (λ (p : Part). p.writer) part ∙ c.in-Some.is))

pub returns-then-part-eq0 : goal.returns-then-part-eq0
returns-then-part-eq0 c =
    let number = c.args.range.now.object.0 in
    let part = sym (c.part_at-part.ensures _ (c.self.invariant.is number) (counts_still number (map grant_of c.self.inside.held.entries))) in
    rw (← c.self.view_is) (nothing_covers _ c.self.invariant.are c.args.owner.0 (number_range c.args.range.now) c.if-range.true (ap (λ (p : Part). p.writer) part ∙ c.in_default.is) (ap (λ (p : Part). p.readers) part ∙ c.if-part-eq0.true))
