use Rattle.std.proofs.Common.{ℕ, List, refl, sym, subst, arith}
use Rattle.std.specs.Prelude.{OnOk}
use Rattle.std.proofs.lemmas.Result.{on_ok_weaker}
use Rattle.base.specs.disk.Disk.{bytes_of}
use Rattle.base.specs.tree.Damages.{IsSoundAt}
use Rattle.base.specs.tree.Places.Place.{Top}
use Rattle.base.proofs.tree.Strips.{record-count}
use Rattle.trees.specs.Walking.{IsObjectAt}
use Rattle.object_views.proofs.clients.stored.a_part_is_that_of_its_record.Goals as goal

pub read_part-requires-clause-index : goal.read_part-requires-clause-index
read_part-requires-clause-index g c = omega (arith, record-count)

pub returns : goal.returns
returns g c = record {
  top = λ keeps root is.
      let image : List ℕ = bytes_of (g.D.SectorDevice.disk c.args.device.now).now in
      let o = c.args.object.now in
      subst (λ (n : ℕ). OnOk c.read_part.result (IsSoundAt image o.frame root (Top n))) c.requires.number
      (on_ok_weaker c.read_part.result (λ read. read.sound.top)
      (c.read_part.ensures.read keeps image root refl (subst (λ (n : ℕ). IsObjectAt image root n o.entry) (sym c.requires.number) is)));
}
