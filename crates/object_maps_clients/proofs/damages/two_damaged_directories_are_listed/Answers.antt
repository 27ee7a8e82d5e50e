use Rattle.std.proofs.Common.{ℕ, List, arith, subst, sym}
use Rattle.std.proofs.lemmas.Result.{IfOk-weaker}
use Rattle.base.specs.disk.Disk.{bytes_of}
use Rattle.base.specs.tree.Damages.{IsSoundAt}
use Rattle.base.specs.tree.Places.{Place}
use Rattle.base.specs.tree.Places.Place.{Directory}
use Rattle.trees.specs.Examined.{damages_of}
use Rattle.trees.proofs.DamageLists.{above_directory, damaged_listed}
use Rattle.object_maps_clients.proofs.damages.two_damaged_directories_are_listed.Goals as goal

pub returns-clause-fifth : goal.returns-clause-fifth
returns-clause-fifth g c =
    let image : List ℕ = bytes_of (g.D.SectorDevice.disk c.args.device.now).now in
    IfOk-weaker c.examine.result _ _
    (λ e lists. damaged_listed image c.args.frame.now c.args.root (damages_of e) lists (Directory 5) (omega arith) c.requires.fifth
    (λ upper below. subst (λ (p : Place). IsSoundAt image c.args.frame.now c.args.root p) (sym (above_directory 5 upper below)) c.requires.sound))
    (c.examine.ensures.listed c.requires.keeps)

pub returns-clause-sixth : goal.returns-clause-sixth
returns-clause-sixth g c =
    let image : List ℕ = bytes_of (g.D.SectorDevice.disk c.args.device.now).now in
    IfOk-weaker c.examine.result _ _
    (λ e lists. damaged_listed image c.args.frame.now c.args.root (damages_of e) lists (Directory 6) (omega arith) c.requires.sixth
    (λ upper below. subst (λ (p : Place). IsSoundAt image c.args.frame.now c.args.root p) (sym (above_directory 6 upper below)) c.requires.sound))
    (c.examine.ensures.listed c.requires.keeps)
