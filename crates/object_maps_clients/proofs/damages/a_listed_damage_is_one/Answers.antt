use Rattle.std.proofs.Common.{ℕ, List}
use Rattle.std.proofs.lemmas.Result.{IfOk-weaker}
use Rattle.base.specs.disk.Disk.{bytes_of}
use Rattle.trees.specs.Examined.{damages_of}
use Rattle.trees.proofs.DamageLists.{listed_damaged}
use Rattle.object_maps_clients.proofs.damages.a_listed_damage_is_one.Goals as goal

pub returns : goal.returns
returns g c =
    let image : List ℕ = bytes_of (g.D.SectorDevice.disk c.args.device.now).now in
    IfOk-weaker c.examine.result _ _ (λ e lists. listed_damaged image c.args.frame.now c.args.root (damages_of e) lists) (c.examine.ensures.listed c.requires.keeps)
