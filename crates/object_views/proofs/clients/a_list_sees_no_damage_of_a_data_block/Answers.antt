use Rattle.std.proofs.Common.{ℕ, List}
use Rattle.std.proofs.lemmas.Result.{IfErr-weaker}
use Rattle.base.specs.disk.Disk.{bytes_of}
use Rattle.object_views.proofs.Listings.{not_data}
use Rattle.object_views.proofs.clients.a_list_sees_no_damage_of_a_data_block.Goals as goal

pub returns : goal.returns
returns g c = λ keeps.
    let image : List ℕ = bytes_of (g.D.SectorDevice.disk c.args.device.now).now in
    IfErr-weaker c.list_pool.result _ _ (λ e refused address is. not_data image e address is (refused.damaged keeps 5 address is)) c.list_pool.ensures.refused
