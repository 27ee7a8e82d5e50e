use Rattle.std.proofs.Common.{Ok}
use Rattle.base.specs.declared.names.Owner.{Owner}
use Rattle.pool_threads.specs.Handles.{owned_of}
use Rattle.running_pools.proofs.Adds.{transacted_alone}
use Rattle.fronts.specs.RisingPools.MakesTransactions.{by_transact}
use Rattle.fronts.proofs.RisingCalls.{transacts_go_on_rising}
use Rattle.fronts.proofs.TwoTransactions.{finds_front, rises_first}
use Rattle.fronts.proofs.clients.a_crash_leaves_no_second_transaction_without_the_first.Goals as goal

pub returns : goal.returns
returns g c =
    let p = owned_of c.in-Ok.pool in
    let owner : Owner = record { 0 = 1 } in
    let now = c.transact.new.self in
    let last = c.transact-2.new.self in
    let first = c.in-Ok-transact.ensures.made in
    let second = c.in-Ok-transact-2.ensures.made in
    let rises = rises_first p c.args.device _ c.in-Ok.ensures.opened c.in-Ok.first c.in-Ok.ensures.first c.handle_after-handle.result c.handle_after-handle.ensures owner c.args.one c.args.two c.in-Ok-transact.field-0 now last first in
    finds_front p c.args.device _ c.in-Ok.ensures.opened c.in-Ok.first c.in-Ok.ensures.first c.handle_after-handle.result c.handle_after-handle.ensures owner c.args.one c.args.two c.in-Ok-transact.field-0 now last first
    (transacts_go_on_rising now last (by_transact owner c.args.two (Ok c.in-Ok-transact-2.field-0) second) rises).after
    (transacted_alone owner c.args.two (Ok c.in-Ok-transact-2.field-0) now last second) c.leave-last.result c.leave-last.ensures c.close_alone.result c.close_alone.ensures
