use Rattle.std.proofs.lemmas.Result.{IfOk-weaker}
use Rattle.import_replay_clients.proofs.Promises.{next_active}
use Rattle.import_replay_clients.proofs.imports.the_next_uberblock_is_active.Goals as goal

pub returns : goal.returns
returns g c = λ keeps. IfOk-weaker c.import.result _ _ (λ i written.
    next_active (g.D.SectorDevice.disk c.args.device) (g.D.SectorDevice.disk i.device) 0 i.mounted written.synced written.active) (c.import.ensures.written keeps)
