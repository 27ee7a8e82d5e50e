use Rattle.inspections.specs.Refused.{IsInspectionRefused}
use Rattle.read_commands.specs.Undone.{HasWholePool}
use Rattle.read_commands.proofs.Undone.{refused_by, whole_of}
use Rattle.read_commands.proofs.clients.undone.the_space_that_was_asked_for_of_a_pool_that_is_not_mounted_has_status_1.Goals as goal

pub returns : goal.returns
returns g c = λ keeps none.
    let D = g.D.SectorDevice in
    let run = c.run_opened in
    let (after, ended) = run.ensures.undone (λ zero. let w = run.ensures.written zero in let (contents, mounts) = whole_of _ w.inspected (w.mounted keeps) in none contents mounts) in
    refused_by (IsInspectionRefused D) (HasWholePool D) c.args.device after run.result (λ whole. let (contents, mounts) = whole keeps in none contents mounts) ended
