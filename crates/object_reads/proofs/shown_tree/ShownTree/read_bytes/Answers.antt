use Rattle.std.proofs.Common.{rules, ◌≡◌, ◌+◌, ◌*◌, ◌/◌, ◌%◌, ◌∙◌, length, arith}
use Rattle.std.proofs.lemmas.Result.{err_from_is_err_and}
use Rattle.base.proofs.tree.Strips.{record-count}
use Rattle.tree_blocks.specs.Sources.{object_bytes}
use Rattle.object_reads.specs.ShownTrees.{shown_objects}
use Rattle.object_reads.proofs.ReadParts.{part_read, read_more}
use Rattle.object_reads.proofs.SyncedObjects.{stands_still, stood_before}
use Rattle.object_reads.proofs.shown_tree.ShownTree.read_bytes.Goals as goal

pub read_part-requires-clause-index : goal.read_part-requires-clause-index
read_part-requires-clause-index g c = omega (arith, c.requires.within, c.loop-done-test.true, c.loop-done.invariant.size, record-count)

pub read_part-requires-clause-blocks : goal.read_part-requires-clause-blocks
read_part-requires-clause-blocks g c = λ stands.
    c.loop-done.invariant.blocks (stood_before g.B.SectorDevice c.args.self.now c.args.reader.now c.loop-done.reader c.loop-done.invariant.disk stands)

pub returns-in_err-read_part-clause-sound : goal.returns-in_err-read_part-clause-sound
returns-in_err-read_part-clause-sound g c = λ stands.
    let p = err_from_is_err_and c.from_residual.result c.from_residual.ensures.1 in
    rw (p.1, p.2) (c.in_err-read_part.ensures.sound (stands_still g.B.SectorDevice c.args.self.now c.args.reader.now c.loop-done.reader c.loop-done.invariant.disk stands))

pub loop-done-preserved : goal.loop-done-preserved
loop-done-preserved g c =
    let still = stands_still g.B.SectorDevice c.args.self.now c.args.reader.now c.loop-done.reader c.loop-done.invariant.disk in
    record {
      before = search (rules, arith);
      size = search (rules, arith);
      device = search (rules, arith);
      disk = λ keeps. c.in_ok-read_part.ensures.reads.disk keeps ∙ c.loop-done.invariant.disk keeps;
      counted = search (rules, arith);
      blocks = λ stands. c.in_ok-read_part.ensures.blocks (still stands);
      read = λ stands.
          let at : 4032 * ((c.args.low + c.loop-done.done) / 4032) + (c.args.low + c.loop-done.done) % 4032 ≡ c.args.low + c.loop-done.done = omega arith in
          read_more (object_bytes (shown_objects c.args.self.now) c.args.id.0) c.loop-done.into c.read_part.new.into c.args.low c.loop-done.done c.min-count.result _ _
          c.loop-done.invariant.before (search (rules, arith)) at (c.loop-done.invariant.read stands) (c.in_ok-read_part.ensures.exact (still stands));
    }

pub returns-clause-exact : goal.returns-clause-exact
returns-clause-exact g c = λ stands.
    let object = object_bytes (shown_objects c.args.self.now) c.args.id.0 in
    let done : c.loop-done.done ≡ length c.args.into.now = search (rules, arith) in
    part_read object c.loop-done.into c.args.low (length c.args.into.now) c.loop-done.invariant.size c.requires.inside
    (λ k inside. c.loop-done.invariant.read stands k (rw done inside))
