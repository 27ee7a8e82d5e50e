use Rattle.base.specs.declared.names.Owner.{Owner}
use Rattle.pool_threads.specs.Handles.{owned_of}
use Rattle.fronts.proofs.DurableTransactions.{durable_adds, durable_along, durable_rises}
use Rattle.fronts.proofs.TwoTransactions.{finds_both, is_only, rises_first, was_of}
use Rattle.fronts.proofs.clients.a_durable_second_transaction_has_the_first_with_it.Goals as goal

pub close_alone-requires : goal.close_alone-requires
close_alone-requires g c =
    let p = owned_of c.in-Ok.pool in
    let owner : Owner = record { 0 = 1 } in
    let first = c.in-Ok-transact.ensures in
    let second = c.in-Ok-transact_durably.ensures.made in
    let h = c.handle_after-handle.result in
    let now = c.transact.new.self in
    let last = c.transact_durably.new.self in
    let rises = rises_first p c.args.device _ c.in-Ok.ensures.opened c.in-Ok.first c.in-Ok.ensures.first h c.handle_after-handle.ensures owner c.args.one c.args.two c.in-Ok-transact.field-0 now last first.made in
    record {
      own = was_of p c.in-Ok.first h now last c.leave-last.result c.in-Ok.ensures.first c.handle_after-handle.ensures first.same_pool (durable_along owner c.args.two c.in-Ok-transact_durably.field-0 now last second).same_pool c.leave-last.ensures;
      only = is_only last c.leave-last.result (durable_rises owner c.args.two c.in-Ok-transact_durably.field-0 now last second rises) c.leave-last.ensures;
    }

pub returns : goal.returns
returns g c =
    let p = owned_of c.in-Ok.pool in
    let owner : Owner = record { 0 = 1 } in
    let first = c.in-Ok-transact.ensures.made in
    let second = c.in-Ok-transact_durably.ensures.made in
    let h = c.handle_after-handle.result in
    let now = c.transact.new.self in
    let last = c.transact_durably.new.self in
    let r = c.in-Ok-transact.field-0 in
    let q = c.in-Ok-transact_durably.field-0 in
    let rises = rises_first p c.args.device _ c.in-Ok.ensures.opened c.in-Ok.first c.in-Ok.ensures.first h c.handle_after-handle.ensures owner c.args.one c.args.two r now last first in
    finds_both p c.args.device _ c.in-Ok.ensures.opened c.in-Ok.first c.in-Ok.ensures.first h c.handle_after-handle.ensures owner c.args.one c.args.two r now last first
    (durable_rises owner c.args.two q now last second rises) (durable_adds owner c.args.two q now last second)
    c.leave-last.result c.leave-last.ensures q second c.close_alone.result c.close_alone.ensures
