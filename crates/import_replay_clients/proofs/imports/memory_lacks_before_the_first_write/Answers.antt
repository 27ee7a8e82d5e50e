use Rattle.std.proofs.lemmas.Result.{IfErr-weaker}
use Rattle.import_replay_clients.proofs.Promises.{not_written}
use Rattle.import_replay_clients.proofs.imports.memory_lacks_before_the_first_write.Goals as goal

pub returns : goal.returns
returns g c = λ keeps. IfErr-weaker c.import.result _ _ (λ e told.
    not_written (g.D.SectorDevice.disk c.args.device) (g.D.SectorDevice.disk e.1) e.0 (told.unchanged keeps)) c.import.ensures.refused
