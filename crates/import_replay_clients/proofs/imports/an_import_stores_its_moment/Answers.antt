use Rattle.std.proofs.Common.{refl}
use Rattle.std.proofs.lemmas.Result.{IfOk-weaker}
use Rattle.import_replay.specs.ImportSyncs.{uberblock_of_import}
use Rattle.import_replay_clients.proofs.imports.an_import_stores_its_moment.Goals as goal

pub returns : goal.returns
returns g c = λ keeps. IfOk-weaker c.import.result _ _ (λ i written. (uberblock_of_import 1234 i.mounted, written.active, refl)) (c.import.ensures.written keeps)
