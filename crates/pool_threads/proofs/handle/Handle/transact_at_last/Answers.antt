use Rattle.std.proofs.Common.{refl}
use Rattle.pool_threads.specs.Handles.{moment_of}
use Rattle.pool_threads.proofs.Tried.{no_turns}
use Rattle.pool_threads.proofs.TransactLoops.{payment_refused, room_made, tried_last, tried_on}
use Rattle.pool_threads.proofs.handle.Handle.transact_at_last.Goals as goal

pub loop-init : goal.loop-init
loop-init g c = (no_turns _ c.args.self.now, refl, c.requires)

pub returns-in-None-back : goal.returns-in-None-back
returns-in-None-back g c =
    let it = c.try_transact-result in
    tried_last c.args.owner c.args.ranges.now c.args.plan.now c.args.ops _ it.result.0 it.result.1 _ _ _ c.in-None-back.is it.ensures.for_good c.loop.invariant.1 c.loop.invariant.0 it.ensures.made

pub returns-in_err-make_room : goal.returns-in_err-make_room
returns-in_err-make_room g c =
    let it = c.try_transact-result in
    let tried = tried_on c.args.owner c.args.ranges.now c.args.plan.now c.args.ops _ it.result.0 it.result.1 _ _ (moment_of c.args.self.now) c.in-Some-back.back _ c.in-Some-back.is it.ensures.again c.loop.invariant.1 c.loop.invariant.0 it.ensures.made in
    payment_refused c.args.owner c.args.ranges.now c.args.plan.now c.args.ops c.in_err-make_room.field-0.0 c.from_residual.result _ _ _ c.from_residual.ensures.1 tried.0 c.in_err-make_room.ensures

pub loop-preserved-then-matches : goal.loop-preserved-then-matches
loop-preserved-then-matches g c =
    let it = c.try_transact-result in
    let tried = tried_on c.args.owner c.args.ranges.now c.args.plan.now c.args.ops _ it.result.0 it.result.1 _ _ (moment_of c.args.self.now) c.in-Some-back.back _ c.in-Some-back.is it.ensures.again c.loop.invariant.1 c.loop.invariant.0 it.ensures.made in
    (tried.0, tried.1, it.ensures.room)

pub loop-preserved : goal.loop-preserved
loop-preserved g c =
    let it = c.try_transact-result in
    let tried = tried_on c.args.owner c.args.ranges.now c.args.plan.now c.args.ops _ it.result.0 it.result.1 _ _ (moment_of c.args.self.now) c.in-Some-back.back _ c.in-Some-back.is it.ensures.again c.loop.invariant.1 c.loop.invariant.0 it.ensures.made in
    (room_made c.args.owner c.args.ranges.now c.args.plan.now c.args.ops c.args.ops it.result.0 it.result.1 _ _ (moment_of c.args.self.now) _ tried.0 c.in_ok-make_room.ensures, tried.1, it.ensures.room)
