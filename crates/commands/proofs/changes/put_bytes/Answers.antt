use Rattle.std.proofs.Common.{inl, inr, subst}
use Rattle.base.specs.declared.names.ObjectId.{ObjectId}
use Rattle.pool_threads.specs.Handles.{owned_of}
use Rattle.commands.specs.Committed.{PutsAndLeaves}
use Rattle.commands.proofs.LeftContents.{put_leaves, put_number, put_was_of, refused_put_leaves}
use Rattle.commands.proofs.changes.put_bytes.Goals as goal

pub returns-then-not-is_target-clause-left : goal.returns-then-not-is_target-clause-left
returns-then-not-is_target-clause-left g c = λ keeps. inl (λ past was. was)

pub returns-in-Err-clause-left : goal.returns-in-Err-clause-left
returns-in-Err-clause-left g c = λ keeps. inl (c.in-Err.ensures.still_left keeps)

pub close_alone-device-requires : goal.close_alone-device-requires
close_alone-device-requires g c =
    let left = c.put_and_leave-end in
    let n : ObjectId = record { 0 = c.args.arguments.object } in
    let pool = owned_of c.in-Ok.opened.0 in
    record {
      own = put_was_of n c.args.arguments.offset c.args.bytes.now left.result.0 left.result.1 pool left.result.2 left.ensures;
      only = put_number n c.args.arguments.offset c.args.bytes.now left.result.0 left.result.1 pool left.result.2 left.ensures;
    }

pub returns-in-Ok-end-clause-put : goal.returns-in-Ok-end-clause-put
returns-in-Ok-end-clause-put g c =
    let left = c.put_and_leave-end in
    let pool = owned_of c.in-Ok.opened.0 in
    record {
      pool = pool;
      opens = c.in-Ok.ensures.opened;
      does = (subst (λ r. PutsAndLeaves pool (record { 0 = c.args.arguments.object }) c.args.arguments.offset c.args.bytes.now left.result.0 r left.result.2) c.in-Ok-end.is left.ensures).0;
    }

pub returns-in-Ok-end-clause-left : goal.returns-in-Ok-end-clause-left
returns-in-Ok-end-clause-left g c =
    let left = c.put_and_leave-end in
    let n : ObjectId = record { 0 = c.args.arguments.object } in
    let pool = owned_of c.in-Ok.opened.0 in
    put_leaves pool c.args.device _ c.in-Ok.ensures.opened n c.args.arguments.offset c.args.bytes.now left.result.0 left.result.2
    (subst (λ r. PutsAndLeaves pool n c.args.arguments.offset c.args.bytes.now left.result.0 r left.result.2) c.in-Ok-end.is left.ensures) c.close_alone-device.result c.close_alone-device.ensures

pub returns-in-Err-end-clause-put : goal.returns-in-Err-end-clause-put
returns-in-Err-end-clause-put g c =
    let left = c.put_and_leave-end in
    let pool = owned_of c.in-Ok.opened.0 in
    inr (
      c.in-Err-end.refusal,
      record {
        pool = pool;
        opens = c.in-Ok.ensures.opened;
        does = (subst (λ r. PutsAndLeaves pool (record { 0 = c.args.arguments.object }) c.args.arguments.offset c.args.bytes.now left.result.0 r left.result.2) c.in-Err-end.is left.ensures).0;
      },
      c.of_pool.ensures.cause,
    )

pub returns-in-Err-end-clause-left : goal.returns-in-Err-end-clause-left
returns-in-Err-end-clause-left g c =
    let left = c.put_and_leave-end in
    let n : ObjectId = record { 0 = c.args.arguments.object } in
    let pool = owned_of c.in-Ok.opened.0 in
    refused_put_leaves pool c.args.device _ c.in-Ok.ensures.opened n c.args.arguments.offset c.args.bytes.now left.result.0 left.result.2 left.result.1 left.ensures c.close_alone-device.result c.close_alone-device.ensures
