use Rattle.std.proofs.Common.{ap, map, sym, ◌∙◌}
use Rattle.base.specs.history.Plans.{number_range}
use Rattle.base.proofs.common.KeptLists.{any_map}
use Rattle.range_locks.specs.declared.parts.Part.{Part}
use Rattle.range_locks.specs.Locks.{covers_for_writing, grant_of}
use Rattle.range_locks.proofs.LockCounts.{counts_still}
use Rattle.range_locks.proofs.Writers.{no_writer_covers, writer_covers_for_writing}
use Rattle.range_locks.proofs.locks.RangeLocks.covers_for_writing.Goals as goal

pub returns : goal.returns
returns c = rw (← c.self.view_is) (c.any_covers_for_writing.ensures ∙ sym (any_map (covers_for_writing c.args.owner.0 (number_range c.args.range.now)) grant_of c.self.inside.held.entries))

pub returns-in-Some : goal.returns-in-Some
returns-in-Some c =
    let number = c.args.range.now.object.0 in
    let part = sym (c.part_at-part.ensures _ (c.self.invariant.is number) (counts_still number (map grant_of c.self.inside.held.entries))) in
    let covers = rw (← c.self.view_is) at c.lock_covers.ensures in
    rw (← c.self.view_is) (covers ∙ writer_covers_for_writing _ c.self.invariant.are c.args.owner.0 (number_range c.args.range.now) c.if-range.true c.in-Some.id (ap (λ (p : Part). p.writer) part ∙ c.in-Some.is))

pub returns-in-None : goal.returns-in-None
returns-in-None c =
    let number = c.args.range.now.object.0 in
    let part = sym (c.part_at-part.ensures _ (c.self.invariant.is number) (counts_still number (map grant_of c.self.inside.held.entries))) in
    rw (← c.self.view_is) (no_writer_covers _ c.self.invariant.are c.args.owner.0 (number_range c.args.range.now) c.if-range.true (ap (λ (p : Part). p.writer) part ∙ c.in-None.is))
