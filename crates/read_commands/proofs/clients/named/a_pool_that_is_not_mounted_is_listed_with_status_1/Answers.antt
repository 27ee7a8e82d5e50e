use Rattle.command_arguments.specs.declared.reports.Scope.TheVariants.{Whole}
use Rattle.read_commands.specs.NamedUndone.{HasNames, IsNamesRefused}
use Rattle.read_commands.proofs.Undone.{refused_if_not}
use Rattle.read_commands.proofs.clients.named.a_pool_that_is_not_mounted_is_listed_with_status_1.Goals as goal

pub returns : goal.returns
returns g c = λ keeps none.
    let D = g.D.SectorDevice in
    let list = c.run_list_named-status in
    refused_if_not (IsNamesRefused D Whole) (HasNames D Whole) c.args.device list.result.1 list.result.0 list.ensures.undone
    (λ zero. let w = list.ensures.listed zero in let (contents, mounts, are) = w.listed.mounted keeps in none contents mounts)
    (λ there. let (l, listed) = there in let (contents, mounts, are) = listed.mounted keeps in none contents mounts)
