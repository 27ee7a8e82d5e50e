use Rattle.std.proofs.Common.{inl, inr, subst}
use Rattle.pool_threads.specs.Handles.{shared_of}
use Rattle.running_pools.proofs.LeftDevices.{closed_still}
use Rattle.commands.specs.Committed.{default_dirty_max}
use Rattle.commands.specs.NamedPuts.{PutsNamed}
use Rattle.commands.proofs.named_puts.put_named.Goals as goal

pub returns-in-Some-clause-still_held : goal.returns-in-Some-clause-still_held
returns-in-Some-clause-still_held g c = λ keeps. inl (λ past was. was)

pub returns-in-Ok-end-clause-put : goal.returns-in-Ok-end-clause-put
returns-in-Ok-end-clause-put g c =
    let end = c.put_by_name-end in
    let given = c.args.arguments in
    let pool = shared_of c.in-Ok.pool in
    record {
      pool = pool;
      opens = c.in-Ok.ensures.opened;
      does = subst (λ r. PutsNamed pool given.name.now given.offset c.args.bytes.now end.result.0 r) c.in-Ok-end.is end.ensures;
    }

pub returns-in-Ok-end-clause-still_held : goal.returns-in-Ok-end-clause-still_held
returns-in-Ok-end-clause-still_held g c = closed_still (shared_of c.in-Ok.pool) c.args.device default_dirty_max c.in-Ok.ensures.opened c.close-device.result c.close-device.ensures

pub returns-in-Err-end-clause-put : goal.returns-in-Err-end-clause-put
returns-in-Err-end-clause-put g c =
    let end = c.put_by_name-end in
    let given = c.args.arguments in
    let pool = shared_of c.in-Ok.pool in
    inr (
      c.in-Err-end.refusal,
      record {
        pool = pool;
        opens = c.in-Ok.ensures.opened;
        does = subst (λ r. PutsNamed pool given.name.now given.offset c.args.bytes.now end.result.0 r) c.in-Err-end.is end.ensures;
      },
      c.failure_of.ensures,
    )

pub returns-in-Err-end-clause-still_held : goal.returns-in-Err-end-clause-still_held
returns-in-Err-end-clause-still_held g c = closed_still (shared_of c.in-Ok.pool) c.args.device default_dirty_max c.in-Ok.ensures.opened c.close-device.result c.close-device.ensures
