use Rattle.std.proofs.lemmas.Result.{IfOk-weaker}
use Rattle.import_replay_clients.proofs.Promises.{mounted_replayed}
use Rattle.import_replay_clients.proofs.replays.the_records_of_a_chain_are_replayed.Goals as goal

pub returns : goal.returns
returns g c = λ keeps. IfOk-weaker c.import.result _ _ (λ i told u chain contents mounts. mounted_replayed _ u chain contents mounts _ 1048576 i.mounted told.imported) (c.import.ensures.imported keeps)
