use Rattle.std.proofs.Common.{arith}
use Rattle.read_commands.specs.Undone.{HasGeometry, IsCheckRefused}
use Rattle.read_commands.proofs.Undone.{there_if_unwritten}
use Rattle.read_commands.proofs.clients.undone.labels_that_are_not_written_as_json_are_of_a_device_of_a_pools_size.Goals as goal

pub returns : goal.returns
returns g c = λ three.
    let D = g.D.SectorDevice in
    there_if_unwritten (IsCheckRefused D) (HasGeometry D) c.args.device _ c.run_json_labels.result three (c.run_json_labels.ensures.undone (λ zero. omega (arith, three, zero)))
