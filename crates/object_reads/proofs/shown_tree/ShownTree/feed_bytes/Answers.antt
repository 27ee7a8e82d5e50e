use Rattle.std.proofs.Common.{rules, ◌≡◌, ◌+◌, ◌-◌, ◌*◌, ◌∙◌, List, ℕ, length, take, ap, arith}
use Rattle.std.specs.Prelude.{min}
use Rattle.std.proofs.lemmas.Result.{err_from_is_err_and}
use Rattle.base.proofs.tree.Strips.{record-count}
use Rattle.tree_blocks.specs.Sources.{object_bytes}
use Rattle.tree_blocks.proofs.Records.{records_more, whole_record_read}
use Rattle.object_reads.specs.ShownTrees.{shown_objects}
use Rattle.object_reads.proofs.Feeds.{feeds_both}
use Rattle.object_reads.proofs.SyncedObjects.{stands_still, stood_before}
use Rattle.object_reads.proofs.shown_tree.ShownTree.feed_bytes.Goals as goal

pub read_part-requires-clause-index : goal.read_part-requires-clause-index
read_part-requires-clause-index g c = omega (arith, c.requires.within, c.div_ceil-index-end.ensures, c.loop-index-test.true, record-count)

pub read_part-requires-clause-blocks : goal.read_part-requires-clause-blocks
read_part-requires-clause-blocks g c = λ stands.
    c.loop-index.invariant.blocks (stood_before g.B.SectorDevice c.args.self.now c.args.reader.now c.loop-index.reader c.loop-index.invariant.disk stands)

pub returns-in_err-read_part-clause-sound : goal.returns-in_err-read_part-clause-sound
returns-in_err-read_part-clause-sound g c = λ stands.
    let p = err_from_is_err_and c.from_residual.result c.from_residual.ensures.1 in
    rw (p.1, p.2) (c.in_err-read_part.ensures.sound (stands_still g.B.SectorDevice c.args.self.now c.args.reader.now c.loop-index.reader c.loop-index.invariant.disk stands))

pub loop-index-preserved : goal.loop-index-preserved
loop-index-preserved g c =
    let object : List ℕ = object_bytes (shown_objects c.args.self.now) c.args.id.0 in
    let i = c.loop-index.index in
    let so_far = c.loop-index.invariant in
    let still = stands_still g.B.SectorDevice c.args.self.now c.args.reader.now c.loop-index.reader so_far.disk in
    let count : c.min-count.result ≡ min 4032 (length object - 4032 * i) = c.min-count.ensures ∙ ap (λ (k : ℕ). min 4032 (k - 4032 * i)) c.requires.size in
    let long : length c.read_part.new.into ≡ 4032 = search (rules, arith) in
    record {
      device = c.in_ok-read_part.ensures.reads.size ∙ so_far.device;
      disk = λ keeps. c.in_ok-read_part.ensures.reads.disk keeps ∙ so_far.disk keeps;
      counted = c.in_ok-read_part.ensures.reads.count ∙ so_far.counted;
      blocks = λ stands. c.in_ok-read_part.ensures.blocks (still stands);
      fed = λ stands. feeds_both (take (4032 * i) object) (take c.min-count.result c.read_part.new.into) (take (4032 * (i + 1)) object)
          c.args.hasher.now c.loop-index.hasher c.update.new.self (so_far.fed stands) c.update.ensures
          (records_more object c.read_part.new.into i c.min-count.result count (whole_record_read object c.read_part.new.into i long (c.in_ok-read_part.ensures.exact (still stands))));
    }
