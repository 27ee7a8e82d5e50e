use Rattle.std.proofs.Common.{subst}
use Rattle.base.specs.disk.Disk.{Disk, bytes_of}
use Rattle.read_commands.specs.ReadLabels.{AreConfigsFound}
use Rattle.read_commands.proofs.label_lines.read_labels.Goals as goal

pub returns-clause-found : goal.returns-clause-found
returns-clause-found g c = λ keeps. record {
  ring = c.in_ok-ring.ensures.ring keeps;
  configs = subst (λ (d : Disk). AreConfigsFound (bytes_of d.now) c.in_ok-configs.configs) (c.read_ring.ensures.reads.disk keeps) (c.in_ok-configs.ensures.found keeps);
}
