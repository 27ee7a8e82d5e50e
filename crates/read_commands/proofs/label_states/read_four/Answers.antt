use Rattle.std.proofs.Common.{ℕ, List, subst, ◌∙◌}
use Rattle.base.specs.disk.Disk.{Disk, bytes_of}
use Rattle.read_commands.specs.FoundLabels.{IsStateAt}
use Rattle.read_commands.proofs.FoundLabels.{four_states}
use Rattle.read_commands.proofs.label_states.read_four.Goals as goal

pub returns-clause-states : goal.returns-clause-states
returns-clause-states g c = λ keeps.
    let image : List ℕ = bytes_of (g.D.SectorDevice.disk c.args.device.now).now in
    let one = c.read_state.ensures.reads.disk keeps in
    let two = c.read_state-2.ensures.reads.disk keeps ∙ one in
    let three = c.read_state-3.ensures.reads.disk keeps ∙ two in
    four_states image c.in_ok-read_state.field-0 c.in_ok-read_state-2.field-0 c.in_ok-read_state-3.field-0 c.in_ok-read_state-4.field-0
    c.in_ok-read_state.ensures.number c.in_ok-read_state-2.ensures.number c.in_ok-read_state-3.ensures.number c.in_ok-read_state-4.ensures.number
    (c.in_ok-read_state.ensures.state keeps)
    (subst (λ (d : Disk). IsStateAt (bytes_of d.now) c.in_ok-read_state-2.field-0) one (c.in_ok-read_state-2.ensures.state keeps))
    (subst (λ (d : Disk). IsStateAt (bytes_of d.now) c.in_ok-read_state-3.field-0) two (c.in_ok-read_state-3.ensures.state keeps))
    (subst (λ (d : Disk). IsStateAt (bytes_of d.now) c.in_ok-read_state-4.field-0) three (c.in_ok-read_state-4.ensures.state keeps))
