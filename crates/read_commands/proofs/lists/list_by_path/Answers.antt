use Rattle.std.proofs.Common.{refl}
use Rattle.base.specs.disk.Disk.{bytes_of}
use Rattle.read_commands.proofs.ScopedReads.{listed_objects}
use Rattle.read_commands.proofs.lists.list_by_path.Goals as goal

pub returns-clause-mounted : goal.returns-clause-mounted
returns-clause-mounted g c = λ keeps whole.
    listed_objects (bytes_of (g.D.SectorDevice.disk c.args.device.now).now) c.in_ok-listed.listed whole.0 whole.1 (c.in_ok-listed.ensures.exact keeps whole.0 whole.1)

pub returns-clause-checked : goal.returns-clause-checked
returns-clause-checked g c = λ keeps. (c.in_ok-listed.listed, c.in_ok-listed.ensures.listed keeps, refl)
