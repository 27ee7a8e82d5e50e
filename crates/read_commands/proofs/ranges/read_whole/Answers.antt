use Rattle.std.proofs.Common.{◌≡◌, subst}
use Rattle.std.specs.Prelude.{IfErr}
use Rattle.base.specs.declared.error.PoolError.TheVariants.{NoObject}
use Rattle.base.specs.disk.Disk.{bytes_of}
use Rattle.read_commands.specs.Reads.{IsAbsentIn}
use Rattle.read_commands.proofs.ranges.read_whole.Goals as goal

pub returns-clause-absent : goal.returns-clause-absent
returns-clause-absent g c = λ keeps.
    subst (λ device. IfErr c.read_viewed-read.result (λ e. e ≡ NoObject → IsAbsentIn (bytes_of (g.D.SectorDevice.disk device).now) c.args.object.0)) c.new-reader.ensures.device
    (c.read_viewed-read.ensures.absent keeps)
