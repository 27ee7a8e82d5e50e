use Rattle.std.proofs.lemmas.Result.{IfErr-weaker}
use Rattle.base.specs.disk.Disk.{bytes_of}
use Rattle.import_replay_clients.proofs.SpareRoom.{has_spare_room}
use Rattle.import_replay_clients.proofs.replays.one_spare_block_is_room_without_records.Goals as goal

pub returns : goal.returns
returns g c = λ keeps. IfErr-weaker c.import.result _ _
    (λ e told u chain contents address mounts none is unused full. has_spare_room (bytes_of (g.D.SectorDevice.disk c.args.device).now) u chain contents mounts none address is unused ((told.reason keeps).no_space full))
    c.import.ensures.refused
