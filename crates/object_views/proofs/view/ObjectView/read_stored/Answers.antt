use Rattle.std.proofs.Common.{sym, subst, Option}
use Rattle.std.specs.Prelude.{IfSome}
use Rattle.std.proofs.lemmas.Result.{on_ok_weaker}
use Rattle.tree_blocks.specs.declared.forms.Entry.{Entry}
use Rattle.trees.specs.ObjectPaths.{IsEntryFound}
use Rattle.object_views.specs.ReadPaths.{IsSoundRecord, OnObject}
use Rattle.object_views.specs.ObjectViews.{AreViewBlocks, object_of, stored_object}
use Rattle.object_views.proofs.SeenBytes.{stored_bytes}
use Rattle.object_views.proofs.view.ObjectView.read_stored.Goals as goal

pub read_part-requires-clause-blocks : goal.read_part-requires-clause-blocks
read_part-requires-clause-blocks g c =
    let v = c.args.self.now in
    subst (λ (o : Option Entry). IfSome o (λ (e : Entry). OnObject g.D.SectorDevice.keeps_model (g.D.SectorDevice.disk c.args.device.now) (stored_object v e) (AreViewBlocks v c.args.blocks.now))) c.in-Some.is c.requires.blocks

pub returns-clause-bytes : goal.returns-clause-bytes
returns-clause-bytes g c = λ keeps image root shows is.
    let v = c.args.self.now in
    let at = subst (λ (o : Option Entry). IsEntryFound image root (object_of v) o) c.in-Some.is (is.found c.requires.number) in
    on_ok_weaker c.read_part.result (λ read. stored_bytes image root v c.in-Some.entry c.args.index c.args.start c.read_part.new.into c.requires.number c.requires.index is c.in-Some.is read)
    (c.read_part.ensures.read keeps image root shows at)

pub returns-clause-sound : goal.returns-clause-sound
returns-clause-sound g c = λ keeps image root shows is.
    let v = c.args.self.now in
    let at = subst (λ (o : Option Entry). IsEntryFound image root (object_of v) o) c.in-Some.is (is.found c.requires.number) in
    on_ok_weaker c.read_part.result (λ read. subst (λ (o : Option Entry). IfSome o (λ (e : Entry). IsSoundRecord image v.frame root (object_of v) c.args.index)) (sym c.in-Some.is) read.sound)
    (c.read_part.ensures.read keeps image root shows at)
