use Rattle.base.specs.disk.Disk.{bytes_of}
use Rattle.read_commands.proofs.ScopedReads.{inspected_objects}
use Rattle.read_commands.proofs.lists.list_whole.Goals as goal

pub returns-clause-mounted : goal.returns-clause-mounted
returns-clause-mounted g c = λ keeps.
    inspected_objects (bytes_of (g.D.SectorDevice.disk c.args.device.now).now) c.in_ok-inspected.inspected (c.in_ok-inspected.ensures.mounted keeps)
