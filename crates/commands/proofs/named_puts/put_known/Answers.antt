use Rattle.commands.proofs.named_puts.put_known.Goals as goal

pub returns : goal.returns
returns g c =
    let end = c.put_and_sync-end in
    (end.result.1, record { first = c.handle-handle.result; is_new = c.handle-handle.ensures; last = end.new.handle; did = end.ensures }, c.by_engine.ensures)
