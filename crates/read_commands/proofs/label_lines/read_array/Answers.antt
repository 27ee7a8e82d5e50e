use Rattle.std.proofs.Common.{◌+◌, ◌*◌, ◌-◌, arith}
use Rattle.base.specs.disk.Disk.{bytes_of}
use Rattle.base.specs.formats.Geometry.{slot_place}
use Rattle.import_replay.proofs.Rings.{put_array}
use Rattle.read_commands.proofs.label_lines.read_array.Goals as goal

pub returns-clause-array : goal.returns-clause-array
returns-clause-array g c = λ keeps.
    let label = c.args.label in
    let place = c.label_place-at.ensures.place in
    put_array c.read.result (131072 * label) (131072 * (label + 1) - 131072 * label) (c.label_place-at.result + 131072) (slot_place c.args.geometry label 0)
    c.args.ring.now c.read.new.into (bytes_of (g.D.SectorDevice.disk c.args.device.now).now)
    (omega arith) (let low = c.requires.label in let long = c.requires.ring in omega (arith, low, long)) (omega (arith, place)) c.read.auto.into (c.read.ensures.bytes keeps)
