use Rattle.std.proofs.Common.{sym, ◌∙◌}
use Rattle.range_locks.proofs.PieceWalk.{walk_starts, walk_piece, walk_gap, walk_ends}
use Rattle.range_locks.proofs.parts.Parts.pieces.Goals as goal

pub loop-begin-init : goal.loop-begin-init
loop-begin-init c = rw c.new-pieces.ensures.items
    (walk_starts c.args.self.now.table c.next_part-begin.result c.next_part-begin.ensures.within c.next_part-begin.ensures.part c.next_part-begin.ensures.before c.next_part-begin.ensures.none)

pub loop-begin-preserved-in-Continue-1 : goal.loop-begin-preserved-in-Continue-1
loop-begin-preserved-in-Continue-1 c =
    let so_far = rw c.in-Some.is at c.loop-begin.invariant in let next = c.in-Some-begin.ensures in
    rw (c.in_ok-push.ensures.items, c.is_some.ensures, c.in-Some-begin.high-is, c.in-Some-begin.is)
    (walk_piece c.args.self.now.table c.loop-begin.pieces.items c.in-Some.low c.in-Some.part so_far c.in-Some-begin.high c.in-Some-begin.field-0-1 next.within.0 next.within.1 next.part next.before (sym c.is_covered.ensures ∙ c.if-is_covered.true))

pub loop-begin-preserved-else-is_covered : goal.loop-begin-preserved-else-is_covered
loop-begin-preserved-else-is_covered c =
    let so_far = rw c.in-Some.is at c.loop-begin.invariant in let next = c.in-Some-begin.ensures in
    rw c.in-Some-begin.is
    (walk_gap c.args.self.now.table c.loop-begin.pieces.items c.in-Some.low c.in-Some.part so_far c.in-Some-begin.high c.in-Some-begin.field-0-1 next.within.0 next.within.1 next.part next.before (sym c.is_covered.ensures ∙ c.if-is_covered.false))

pub loop-begin-preserved : goal.loop-begin-preserved
loop-begin-preserved c =
    let so_far = rw c.in-Some.is at c.loop-begin.invariant in
    rw c.in_default-begin.is (walk_ends c.args.self.now.table c.loop-begin.pieces.items c.in-Some.low c.in-Some.part so_far c.in_default-begin.ensures.none)
