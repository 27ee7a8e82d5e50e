use Rattle.std.proofs.Common.{subst, ◌∙◌, length, ℕ, List}
use Rattle.base.specs.disk.Disk.{Disk, bytes_of}
use Rattle.read_commands.specs.FoundLabels.{config_bytes_at}
use Rattle.read_commands.specs.ReadLabels.{IsConfigFound}
use Rattle.read_commands.proofs.ReadLabels.{four_configs}
use Rattle.read_commands.proofs.label_lines.read_configs.Goals as goal

pub returns-clause-found : goal.returns-clause-found
returns-clause-found g c = λ keeps.
    let image : List ℕ = bytes_of (g.D.SectorDevice.disk c.args.device.now).now in
    let one = c.read_config.ensures.reads.disk keeps in
    let two = c.read_config-2.ensures.reads.disk keeps ∙ one in
    let three = c.read_config-3.ensures.reads.disk keeps ∙ two in
    four_configs image c.in_ok-read_config.field-0 c.in_ok-read_config-2.field-0 c.in_ok-read_config-3.field-0 c.in_ok-read_config-4.field-0
    (c.in_ok-read_config.ensures.config keeps)
    (subst (λ (d : Disk). IsConfigFound (config_bytes_at (bytes_of d.now) 1) (length (bytes_of d.now)) c.in_ok-read_config-2.field-0) one (c.in_ok-read_config-2.ensures.config keeps))
    (subst (λ (d : Disk). IsConfigFound (config_bytes_at (bytes_of d.now) 2) (length (bytes_of d.now)) c.in_ok-read_config-3.field-0) two (c.in_ok-read_config-3.ensures.config keeps))
    (subst (λ (d : Disk). IsConfigFound (config_bytes_at (bytes_of d.now) 3) (length (bytes_of d.now)) c.in_ok-read_config-4.field-0) three (c.in_ok-read_config-4.ensures.config keeps))
