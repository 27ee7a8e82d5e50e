use Rattle.pool_threads.proofs.TransactLoops.{room_by_payment}
use Rattle.pool_threads.proofs.handle.Handle.make_room.Goals as goal

pub returns : goal.returns
returns g c = room_by_payment c.args.moment c.pay.result _ _ c.pay.ensures
