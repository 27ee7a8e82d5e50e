use Rattle.std.proofs.lemmas.Result.{IfOk-weaker}
use Rattle.read_commands.proofs.ScopedReads.{assured, seven_listed}
use Rattle.read_commands.proofs.clients.objects.a_list_has_the_number_and_the_length.Goals as goal

pub returns : goal.returns
returns g c = λ keeps contents mounts alone.
    IfOk-weaker c.list_objects.result _ _ (λ l are. seven_listed _ l.items are contents mounts alone) (c.list_objects.ensures.mounted (assured c.args.scope _ _ keeps (contents, mounts)))
