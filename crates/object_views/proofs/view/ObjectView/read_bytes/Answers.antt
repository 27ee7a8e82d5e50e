use Rattle.std.proofs.Common.{rules, ◌≡◌, ◌+◌, ◌*◌, ◌/◌, ◌%◌, ◌<◌, ◌∙◌, ℕ, [], length, ap, sym, subst, arith, refl}
use Rattle.std.specs.Prelude.{unwrap_or}
use Rattle.std.proofs.lemmas.Result.{err_from_is_err_and}
use Rattle.base.specs.disk.Disk.{Disk, bytes_of}
use Rattle.base.proofs.tree.Strips.{record-count}
use Rattle.object_reads.proofs.ReadParts.{read_more}
use Rattle.object_views.specs.ObjectViews.{AreCheckedBytes, AreViewBlocks, seen_over}
use Rattle.object_views.proofs.SeenBytes.{checked_more, none_read, stored_moved, told_between}
use Rattle.object_views.proofs.view.ObjectView.read_bytes.Goals as goal

pub loop-done-init : goal.loop-done-init
loop-done-init g c = record {
  before = search (rules, arith);
  size = refl;
  device = refl;
  disk = λ keeps. refl;
  counted = refl;
  blocks = none_read c.args.self.now g.D.SectorDevice.keeps_model (g.D.SectorDevice.disk c.args.device.now) c.new-blocks.result c.new-blocks.ensures.top c.new-blocks.ensures.strip;
  read = λ keeps image root shows is below object k inside. absurd (omega (arith, inside));
  checked = λ keeps image root shows is k inside. absurd (omega (arith, inside));
}

pub read_part-requires-clause-index : goal.read_part-requires-clause-index
read_part-requires-clause-index g c = omega (arith, c.requires.within, c.loop-done-test.true, c.loop-done.invariant.size, record-count)

pub read_part-requires-clause-blocks : goal.read_part-requires-clause-blocks
read_part-requires-clause-blocks g c =
    let v = c.args.self.now in
    stored_moved v g.D.SectorDevice.keeps_model (g.D.SectorDevice.disk c.args.device.now) (g.D.SectorDevice.disk c.loop-done.device) (AreViewBlocks v c.loop-done.blocks) c.loop-done.invariant.disk c.loop-done.invariant.blocks

pub returns-in_err-read_part-clause-damage : goal.returns-in_err-read_part-clause-damage
returns-in_err-read_part-clause-damage g c = λ keeps image root shows is.
    let v = c.args.self.now in
    let still = ap (λ (d : Disk). bytes_of d.now) (c.loop-done.invariant.disk keeps) ∙ shows in
    let e = c.in_err-read_part.field-0.0 in
    let p = err_from_is_err_and c.from_residual.result c.from_residual.ensures.1 in
    let inside : c.loop-done.done < length c.args.into.now = search (rules, arith) in
    rw (p.1, p.2) (told_between image root v c.args.low (length c.args.into.now) c.loop-done.done e inside (c.in_err-read_part.ensures.damage keeps image root still is))

pub loop-done-preserved : goal.loop-done-preserved
loop-done-preserved g c =
    let v = c.args.self.now in
    let inv = c.loop-done.invariant in
    let keep = g.D.SectorDevice.keeps_model in
    let then_ = c.in_ok-read_part.ensures in
    let at : 4032 * ((c.args.low + c.loop-done.done) / 4032) + (c.args.low + c.loop-done.done) % 4032 ≡ c.args.low + c.loop-done.done = omega arith in
    let long : length c.read_part.new.into ≡ c.min-count.result = search (rules, arith) in
    record {
      before = search (rules, arith);
      size = search (rules, arith);
      device = search (rules, arith);
      disk = λ keeps. then_.reads.disk keeps ∙ inv.disk keeps;
      counted = search (rules, arith);
      blocks = stored_moved v keep (g.D.SectorDevice.disk c.loop-done.device) (g.D.SectorDevice.disk c.args.device.now) (AreViewBlocks v c.read_part.new.blocks) (λ keeps. sym (inv.disk keeps)) then_.blocks;
      read = λ keeps image root shows is below object.
          let still = ap (λ (d : Disk). bytes_of d.now) (inv.disk keeps) ∙ shows in
          read_more (unwrap_or (seen_over v below) []) c.loop-done.into c.read_part.new.into c.args.low c.loop-done.done c.min-count.result _ _ inv.before long at (inv.read keeps image root shows is below object)
          (then_.bytes keeps image root still is below object);
      checked = λ keeps image root shows is.
          let still = ap (λ (d : Disk). bytes_of d.now) (inv.disk keeps) ∙ shows in
          subst (λ (k : ℕ). AreCheckedBytes image root v c.args.low (c.loop-done.done + k)) long
          (checked_more image root v c.args.low c.loop-done.done (length c.read_part.new.into) _ at (inv.checked keeps image root shows is) (then_.checked keeps image root still is));
    }

pub returns-clause-bytes : goal.returns-clause-bytes
returns-clause-bytes g c = λ keeps image root shows is below object k inside.
    let done : c.loop-done.done ≡ length c.loop-done.into = search (rules, arith) in
    c.loop-done.invariant.read keeps image root shows is below object k (rw done inside)

pub returns-clause-checked : goal.returns-clause-checked
returns-clause-checked g c = λ keeps image root shows is.
    let done : c.loop-done.done ≡ length c.loop-done.into = search (rules, arith) in
    subst (λ (k : ℕ). AreCheckedBytes image root c.args.self.now c.args.low k) done (c.loop-done.invariant.checked keeps image root shows is)
