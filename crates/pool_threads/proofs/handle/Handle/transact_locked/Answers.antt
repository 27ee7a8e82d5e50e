use Rattle.std.proofs.Common.{[], inl, refl}
use Rattle.pool_threads.proofs.TransactLoops.{locked_of}
use Rattle.pool_threads.proofs.TransactsRelease.{leaves_nothing, nothing_left}
use Rattle.pool_threads.proofs.TransactsSeen.{locked_refusals_seen, at_last_along, at_last_seen}
use Rattle.pool_threads.proofs.TransactsShort.{short_at_last}
use Rattle.pool_threads.specs.Transacts.{plan_of_ops}
use Rattle.pool_threads.proofs.handle.Handle.transact_locked.Goals as goal

pub returns-in_err-plan-clause-released : goal.returns-in_err-plan-clause-released
returns-in_err-plan-clause-released g c = nothing_left _ _ refl

pub returns-clause-made : goal.returns-clause-made
returns-clause-made g c =
    let u = locked_of c.args.owner c.args.ops c.transact_at_last.result c.args.self.now c.transact_at_last.new.self c.in_ok-plan.plan c.in_ok-plan.ensures c.transact_at_last.ensures in
    inl u

pub returns-clause-committed : goal.returns-clause-committed
returns-clause-committed g c =
    let u = locked_of c.args.owner c.args.ops c.transact_at_last.result c.args.self.now c.transact_at_last.new.self c.in_ok-plan.plan c.in_ok-plan.ensures c.transact_at_last.ensures in
    at_last_seen c.args.owner [] (plan_of_ops c.args.ops) c.args.ops c.transact_at_last.result c.args.self.now c.transact_at_last.new.self u

pub returns-clause-refused : goal.returns-clause-refused
returns-clause-refused g c =
    let u = locked_of c.args.owner c.args.ops c.transact_at_last.result c.args.self.now c.transact_at_last.new.self c.in_ok-plan.plan c.in_ok-plan.ensures c.transact_at_last.ensures in
    locked_refusals_seen c.args.owner c.args.ops c.transact_at_last.result c.args.self.now c.transact_at_last.new.self u

pub returns-clause-short : goal.returns-clause-short
returns-clause-short g c =
    let u = locked_of c.args.owner c.args.ops c.transact_at_last.result c.args.self.now c.transact_at_last.new.self c.in_ok-plan.plan c.in_ok-plan.ensures c.transact_at_last.ensures in
    short_at_last c.args.owner [] (plan_of_ops c.args.ops) c.args.ops c.transact_at_last.result c.args.self.now c.transact_at_last.new.self u

pub returns-clause-same_pool : goal.returns-clause-same_pool
returns-clause-same_pool g c =
    let u = locked_of c.args.owner c.args.ops c.transact_at_last.result c.args.self.now c.transact_at_last.new.self c.in_ok-plan.plan c.in_ok-plan.ensures c.transact_at_last.ensures in
    (at_last_along c.args.owner [] (plan_of_ops c.args.ops) c.args.ops c.transact_at_last.result c.args.self.now c.transact_at_last.new.self u).same_pool

pub returns-clause-met_none : goal.returns-clause-met_none
returns-clause-met_none g c =
    let u = locked_of c.args.owner c.args.ops c.transact_at_last.result c.args.self.now c.transact_at_last.new.self c.in_ok-plan.plan c.in_ok-plan.ensures c.transact_at_last.ensures in
    (at_last_along c.args.owner [] (plan_of_ops c.args.ops) c.args.ops c.transact_at_last.result c.args.self.now c.transact_at_last.new.self u).met_none

pub returns-clause-released : goal.returns-clause-released
returns-clause-released g c =
    let u = locked_of c.args.owner c.args.ops c.transact_at_last.result c.args.self.now c.transact_at_last.new.self c.in_ok-plan.plan c.in_ok-plan.ensures c.transact_at_last.ensures in
    leaves_nothing c.args.owner [] (plan_of_ops c.args.ops) c.args.ops c.transact_at_last.result c.args.self.now c.transact_at_last.new.self u
