use Rattle.base.specs.disk.Disk.{bytes_of}
use Rattle.read_commands.specs.ReadLabels.{AreLabelsOf}
use Rattle.read_commands.specs.Undone.{IsCheckRefused}
use Rattle.read_commands.proofs.ReadLabels.{opened_found}
use Rattle.read_commands.proofs.Undone.{look_refused}
use Rattle.read_commands.proofs.label_lines.read_opened_labels.Goals as goal

pub returns-in-Ok-read_labels-clause-found : goal.returns-in-Ok-read_labels-clause-found
returns-in-Ok-read_labels-clause-found g c = λ keeps.
    opened_found (λ d labels. AreLabelsOf (bytes_of (g.D.SectorDevice.disk d).now) labels) _ _ c.in-Ok-read_labels.labels c.in-Ok.is (c.in-Ok-read_labels.ensures.found keeps)

pub returns-in-Err-read_labels-clause-failed : goal.returns-in-Err-read_labels-clause-failed
returns-in-Err-read_labels-clause-failed g c = look_refused (IsCheckRefused g.D.SectorDevice) _ _ _ c.in-Err-read_labels.refusal _ c.in-Ok.is c.in-Err-read_labels.ensures.refused c.of_pool.ensures.cause
