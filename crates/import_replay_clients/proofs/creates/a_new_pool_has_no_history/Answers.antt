use Rattle.std.proofs.Common.{◌∷◌, [], refl}
use Rattle.std.proofs.lemmas.Result.{IfOk-weaker}
use Rattle.base.specs.disk.Disk.{moments}
use Rattle.base.specs.history.Past.{new_past}
use Rattle.import_replay.specs.OwnCreations.{first_contents}
use Rattle.import_replay_clients.proofs.creates.a_new_pool_has_no_history.Goals as goal

pub returns : goal.returns
returns g c = λ keeps.
    let past = new_past (first_contents (116 ∷ 97 ∷ 110 ∷ 107 ∷ [])) (moments (g.D.SectorDevice.disk c.args.device)) 0 in
    IfOk-weaker c.create.result _ _ (λ d left. (past, refl, refl, refl, left)) (c.create.ensures.left keeps)
