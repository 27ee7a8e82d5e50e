use Rattle.std.proofs.Common.{◌∷◌, [], ℕ, List}
use Rattle.std.proofs.lemmas.Result.{IfErr-weaker, IfOk-weaker}
use Rattle.base.specs.disk.Disk.{bytes_of}
use Rattle.base.proofs.disk.Moments.{bytes_may_be_left}
use Rattle.import_replay_clients.proofs.Promises.{create_found, import_of_new, new_found}
use Rattle.import_replay_clients.proofs.creates.a_new_pool_is_imported.Goals as goal

pub returns-in-Ok-clause-mounted : goal.returns-in-Ok-clause-mounted
returns-in-Ok-clause-mounted g c = λ keeps.
    let moment = (g.D.SectorDevice.disk c.in-Ok.device).now in
    let image : List ℕ = bytes_of moment in
    IfOk-weaker c.import.result _ _ (λ i told. import_of_new image _ 77 0 (c.in-Ok.ensures.created keeps).created ((c.in-Ok.ensures.created keeps).written image (bytes_may_be_left moment)) _ 1048576 i.mounted told.imported) (c.import.ensures.imported keeps)

pub returns-in-Ok-clause-found : goal.returns-in-Ok-clause-found
returns-in-Ok-clause-found g c = λ keeps.
    let moment = (g.D.SectorDevice.disk c.in-Ok.device).now in
    let image : List ℕ = bytes_of moment in
    IfErr-weaker c.import.result _ _ (λ e told. new_found image _ 77 0 (c.in-Ok.ensures.created keeps).created ((c.in-Ok.ensures.created keeps).written image (bytes_may_be_left moment)) e.0 (told.reason keeps)) c.import.ensures.refused

pub returns-in-Err-clause-found : goal.returns-in-Err-clause-found
returns-in-Err-clause-found g c = λ keeps. create_found (g.D.SectorDevice.size c.args.device) (116 ∷ 97 ∷ 110 ∷ 107 ∷ []) c.in-Err.refused.0 c.in-Err.ensures.refused.kind
