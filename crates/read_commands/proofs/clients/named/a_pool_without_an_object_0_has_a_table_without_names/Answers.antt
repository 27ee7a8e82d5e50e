use Rattle.std.proofs.lemmas.Result.{IfOk-weaker}
use Rattle.read_commands.proofs.ScopedReads.{assured}
use Rattle.read_commands.proofs.GotNames.{none_named}
use Rattle.read_commands.proofs.clients.named.a_pool_without_an_object_0_has_a_table_without_names.Goals as goal

pub returns : goal.returns
returns g c = λ keeps contents mounts none.
    IfOk-weaker c.read_table.result.0 _ _ (λ table is. none_named _ contents table is mounts none) (c.read_table.ensures.table (assured c.args.scope _ _ keeps (contents, mounts)))
