use Rattle.std.proofs.lemmas.Result.{IfOk-weaker}
use Rattle.import_replay_clients.proofs.imports.no_block_of_the_tree_is_free.Goals as goal

pub returns : goal.returns
returns g c = λ keeps. IfOk-weaker c.import.result _ _ (λ i told. told.stands.free.not_in_tree) (c.import.ensures.imported keeps)
