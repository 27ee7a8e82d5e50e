use Rattle.std.proofs.Common.{◌∙◌, subst}
use Rattle.base.specs.disk.Disk.{bytes_of}
use Rattle.trees.specs.Examined.{IsExamined}
use Rattle.trees.specs.declared.damages.Examined.{Examined}
use Rattle.object_maps_clients.proofs.HeldTrees.{length-held}
use Rattle.object_maps_clients.proofs.damages.a_whole_tree_has_the_lengths_of_entries.Goals as goal

pub returns-in-Whole : goal.returns-in-Whole
returns-in-Whole g c = let is = subst (λ (e : Examined). IsExamined g.D.SectorDevice.keeps_model (bytes_of (g.D.SectorDevice.disk c.args.device.now).now) c.args.frame.now c.args.root e) c.in-Whole.is c.in_ok-examined.ensures.examined in
    c.in-Whole.loaded.tree.sized 7 ∙ length-held _ _ _ _ (is.held c.requires.keeps) _ is.root_is 100 c.requires.there c.requires.present c.requires.length
