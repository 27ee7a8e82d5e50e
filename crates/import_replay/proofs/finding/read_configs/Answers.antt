use Rattle.std.proofs.Common.{subst, ◌∙◌, ℕ, List}
use Rattle.base.specs.disk.Disk.{Disk, bytes_of}
use Rattle.labels.specs.Choices.{IsRead}
use Rattle.import_replay.proofs.Configs.{four_read}
use Rattle.import_replay.proofs.finding.read_configs.Goals as goal

pub returns-clause-configs : goal.returns-clause-configs
returns-clause-configs g c = λ keeps.
    let image : List ℕ = bytes_of (g.D.SectorDevice.disk c.args.device.now).now in
    let one = c.read_config.ensures.reads.disk keeps in
    let two = c.read_config-2.ensures.reads.disk keeps ∙ one in
    let three = c.read_config-3.ensures.reads.disk keeps ∙ two in
    four_read image c.in_ok-read_config.field-0 c.in_ok-read_config-2.field-0 c.in_ok-read_config-3.field-0 c.in_ok-read_config-4.field-0
    (c.in_ok-read_config.ensures.config keeps)
    (subst (λ (d : Disk). IsRead (bytes_of d.now) 1 c.in_ok-read_config-2.field-0) one (c.in_ok-read_config-2.ensures.config keeps))
    (subst (λ (d : Disk). IsRead (bytes_of d.now) 2 c.in_ok-read_config-3.field-0) two (c.in_ok-read_config-3.ensures.config keeps))
    (subst (λ (d : Disk). IsRead (bytes_of d.now) 3 c.in_ok-read_config-4.field-0) three (c.in_ok-read_config-4.ensures.config keeps))
