use Rattle.std.proofs.Common.{Err, false, inl, inr, refl, true}
use Rattle.base.specs.declared.error.PoolError.TheVariants.{NoSpace}
use Rattle.commands.specs.Committed.{nothing_put}
use Rattle.commands.proofs.Pieces.{ends_within}
use Rattle.commands.proofs.PutRoom.{put_by_room, put_without_length}
use Rattle.commands.proofs.changes.put_and_sync.Goals as goal

pub lacks_room-requires : goal.lacks_room-requires
lacks_room-requires g c = ends_within c.args.target.object.0 c.args.target.offset c.args.bytes.now c.requires

pub returns-in-Err : goal.returns-in-Err
returns-in-Err g c =
    let found = c.length-found in
    put_without_length c.args.target.object c.args.target.offset c.args.bytes.now c.args.handle.now found.new.self found.result found.ensures.made
    c.in-Err.refusal c.in-Err.ensures

pub returns-then-lacks_room : goal.returns-then-lacks_room
returns-then-lacks_room g c =
    let found = c.length-found in
    let asked = c.status-status in
    put_by_room c.args.target.object c.args.target.offset c.args.bytes.now c.args.handle.now found.new.self found.result found.ensures.made
    nothing_put (Err NoSpace) c.in-Ok.start asked.result asked.new.self asked.new.self c.lacks_room.result true c.in-Ok.ensures asked.ensures.made c.lacks_room.ensures c.if-lacks_room.true
    (refl, refl, refl, refl)

pub returns-then-put-eq0 : goal.returns-then-put-eq0
returns-then-put-eq0 g c =
    let found = c.length-found in
    let asked = c.status-status in
    let made = c.put_pieces-made in
    put_by_room c.args.target.object c.args.target.offset c.args.bytes.now c.args.handle.now found.new.self found.result found.ensures.made
    made.result.0 made.result.1 c.in-Ok.start asked.result asked.new.self made.new.handle c.lacks_room.result false c.in-Ok.ensures asked.ensures.made c.lacks_room.ensures c.if-lacks_room.false
    (record { made = made.result.1; done = made.new.handle; makes = made.ensures.made; size = made.ensures.size; syncs = inl (c.if-put-eq0.true, refl, refl) })

pub returns : goal.returns
returns g c =
    let found = c.length-found in
    let asked = c.status-status in
    let made = c.put_pieces-made in
    let synced = c.sync_pool-synced in
    put_by_room c.args.target.object c.args.target.offset c.args.bytes.now c.args.handle.now found.new.self found.result found.ensures.made
    (record { bytes = made.result.0.bytes; transactions = made.result.0.transactions; is_synced = c.is_ok.result }) c.first_refusal.result c.in-Ok.start asked.result asked.new.self synced.new.self c.lacks_room.result false
    c.in-Ok.ensures asked.ensures.made c.lacks_room.ensures c.if-lacks_room.false
    (record { made = made.result.1; done = made.new.handle; makes = made.ensures.made; size = made.ensures.size; syncs = inr (synced.result, c.if-put-eq0.false, synced.ensures.synced, c.is_ok.ensures.value, c.first_refusal.ensures) })
