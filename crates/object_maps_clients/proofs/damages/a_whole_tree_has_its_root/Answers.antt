use Rattle.std.proofs.Common.{subst}
use Rattle.std.specs.Prelude.{Ok, Result}
use Rattle.base.specs.declared.error.PoolError.{PoolError}
use Rattle.base.specs.disk.Disk.{bytes_of}
use Rattle.trees.specs.Examined.{IsExamined}
use Rattle.trees.specs.declared.damages.Examined.{Examined}
use Rattle.trees.specs.declared.objects.Loaded.{Loaded}
use Rattle.trees.proofs.FreeBlocks.{IfOk_root}
use Rattle.object_maps_clients.proofs.damages.a_whole_tree_has_its_root.Goals as goal

pub returns-in-Whole : goal.returns-in-Whole
returns-in-Whole g c = let is = subst (λ (e : Examined). IsExamined g.D.SectorDevice.keeps_model (bytes_of (g.D.SectorDevice.disk c.args.device.now).now) c.args.frame.now c.args.root e) c.in-Whole.is c.in_ok-examined.ensures.examined in
    let whole : Result Loaded PoolError = Ok c.in-Whole.loaded in
    IfOk_root whole (λ l. l.tree) (λ l. l.free) c.args.frame.now.blocks c.args.root c.requires.area c.requires.root is.root_is is.unnamed
