use Rattle.inspections.specs.Refused.{IsInspectionRefused}
use Rattle.read_commands.specs.Undone.{HasWholePool}
use Rattle.read_commands.proofs.Undone.{refused_if_not, whole_of}
use Rattle.read_commands.proofs.clients.undone.the_space_of_a_pool_that_is_not_mounted_has_status_1.Goals as goal

pub returns : goal.returns
returns g c = λ keeps none.
    let D = g.D.SectorDevice in
    refused_if_not (IsInspectionRefused D) (HasWholePool D) c.args.device _ c.run_space.result c.run_space.ensures.undone
    (λ zero. let w = c.run_space.ensures.measured zero in let (contents, mounts) = whole_of _ w.inspected (w.mounted keeps) in none contents mounts)
    (λ whole. let (contents, mounts) = whole keeps in none contents mounts)
