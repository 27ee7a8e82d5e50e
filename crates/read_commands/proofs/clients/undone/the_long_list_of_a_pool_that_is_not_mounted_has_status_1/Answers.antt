use Rattle.command_arguments.specs.declared.reports.Scope.TheVariants.{Whole}
use Rattle.read_commands.specs.Undone.{HasObjects, IsListRefused}
use Rattle.read_commands.proofs.Undone.{refused_if_not}
use Rattle.read_commands.proofs.clients.undone.the_long_list_of_a_pool_that_is_not_mounted_has_status_1.Goals as goal

pub returns : goal.returns
returns g c = λ keeps none.
    let D = g.D.SectorDevice in
    refused_if_not (IsListRefused D Whole) (HasObjects D Whole) c.args.device _ c.run_long_list.result c.run_long_list.ensures.undone
    (λ zero. let w = c.run_long_list.ensures.listed zero in let (contents, mounts, are) = w.mounted keeps in none contents mounts)
    (λ there. let (objects, mounted, checked) = there in let (contents, mounts, are) = mounted keeps in none contents mounts)
