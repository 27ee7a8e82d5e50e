use Rattle.std.proofs.Common.{inl, inr, subst}
use Rattle.base.specs.declared.names.ObjectId.{ObjectId}
use Rattle.pool_threads.specs.Handles.{owned_of}
use Rattle.commands.specs.Committed.{RemovesAndLeaves}
use Rattle.commands.proofs.LeftContents.{refused_removal_leaves, removal_leaves, removal_number, removal_was_of}
use Rattle.commands.proofs.changes.remove_object.Goals as goal

pub returns-in-Err-clause-left : goal.returns-in-Err-clause-left
returns-in-Err-clause-left g c = λ keeps. inl (c.in-Err.ensures.still_left keeps)

pub close_alone-device-requires : goal.close_alone-device-requires
close_alone-device-requires g c =
    let left = c.remove_and_leave-end in
    let n : ObjectId = record { 0 = c.args.arguments.object } in
    let pool = owned_of c.in-Ok.opened.0 in
    record {
      own = removal_was_of pool c.args.device _ c.in-Ok.ensures.opened n left.result.0 left.result.1 left.ensures;
      only = removal_number pool c.args.device _ c.in-Ok.ensures.opened n left.result.0 left.result.1 left.ensures;
    }

pub returns-in-Ok-end-clause-removed : goal.returns-in-Ok-end-clause-removed
returns-in-Ok-end-clause-removed g c =
    let left = c.remove_and_leave-end in
    let pool = owned_of c.in-Ok.opened.0 in
    record {
      pool = pool;
      opens = c.in-Ok.ensures.opened;
      does = (subst (λ r. RemovesAndLeaves pool (record { 0 = c.args.arguments.object }) r left.result.1) c.in-Ok-end.is left.ensures).0;
    }

pub returns-in-Ok-end-clause-left : goal.returns-in-Ok-end-clause-left
returns-in-Ok-end-clause-left g c =
    let left = c.remove_and_leave-end in
    let n : ObjectId = record { 0 = c.args.arguments.object } in
    let pool = owned_of c.in-Ok.opened.0 in
    removal_leaves pool c.args.device _ c.in-Ok.ensures.opened n left.result.1
    (subst (λ r. RemovesAndLeaves pool n r left.result.1) c.in-Ok-end.is left.ensures) c.close_alone-device.result c.close_alone-device.ensures

pub returns-in-Err-end-clause-removed : goal.returns-in-Err-end-clause-removed
returns-in-Err-end-clause-removed g c =
    let left = c.remove_and_leave-end in
    let pool = owned_of c.in-Ok.opened.0 in
    inr (
      c.in-Err-end.refusal,
      record {
        pool = pool;
        opens = c.in-Ok.ensures.opened;
        does = (subst (λ r. RemovesAndLeaves pool (record { 0 = c.args.arguments.object }) r left.result.1) c.in-Err-end.is left.ensures).0;
      },
      c.for_number-failure.ensures.cause c.in-Err-end.refusal c.of_pool-in-Err-end.ensures.cause,
    )

pub returns-in-Err-end-clause-left : goal.returns-in-Err-end-clause-left
returns-in-Err-end-clause-left g c =
    let left = c.remove_and_leave-end in
    let n : ObjectId = record { 0 = c.args.arguments.object } in
    let pool = owned_of c.in-Ok.opened.0 in
    refused_removal_leaves pool c.args.device _ c.in-Ok.ensures.opened n left.result.0 left.result.1 left.ensures c.close_alone-device.result c.close_alone-device.ensures
