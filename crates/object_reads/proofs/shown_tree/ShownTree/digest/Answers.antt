use Rattle.std.proofs.Common.{◌≡◌, ◌++◌, ◌∙◌, ap, refl, subst, List, ℕ, [], length, arith}
use Rattle.std.specs.FinMap as finite
use Rattle.std.specs.Int.{to_le_bytes, w32}
use Rattle.std.proofs.lemmas.Result.{err_from_is_err_and}
use Rattle.sha2.specs.Hashers.{Holds256}
use Rattle.sha2.specs.Sha256.{sha256}
use Rattle.base.specs.formats.Limits.{object_count}
use Rattle.object_reads.proofs.RisingObjects.{text_so_far, text_so_far-start, text_so_far-next, text_so_far-all}
use Rattle.object_reads.specs.ShownTrees.{shown_objects}
use Rattle.object_reads.proofs.SyncedObjects.{stands_still}
use Rattle.object_reads.proofs.shown_tree.ShownTree.digest.Goals as goal

pub loop-number-init : goal.loop-number-init
loop-number-init g c =
    let objects = shown_objects c.args.self.now in
    let name = c.args.name.now in
    let same = c.as_slice-name.ensures.bytes in
    let size = c.to_le_bytes.result in
    let count = c.to_le_bytes-2.result in
    let first : size ≡ to_le_bytes w32 (length name) = c.to_le_bytes.ensures ∙ ap (λ (l : List ℕ). to_le_bytes w32 (length l)) same in
    let second : count ≡ to_le_bytes w32 (finite.len objects) =
    c.to_le_bytes-2.ensures ∙ ap (to_le_bytes w32) (c.count.ensures ∙ ap finite.len c.objects.ensures) in
    let whole = ap (λ (l : List ℕ). size ++ l ++ count) same ∙ text_so_far-start name objects size count first second in
    record {
      device = refl;
      disk = λ keeps. refl;
      counted = refl;
      text = λ stands. subst (λ (l : List ℕ). Holds256 c.update-3.new.self l) whole (c.update-3.ensures _ (c.update-2.ensures _ (c.update.ensures [] c.new-hasher.ensures)));
    }

pub returns-in_err-feed_object-clause-sound : goal.returns-in_err-feed_object-clause-sound
returns-in_err-feed_object-clause-sound g c = λ stands.
    let p = err_from_is_err_and c.from_residual.result c.from_residual.ensures.1 in
    rw (p.1, p.2) (c.in_err-feed_object.ensures.sound (stands_still g.B.SectorDevice c.args.self.now c.args.reader.now c.loop-number.reader c.loop-number.invariant.disk stands))

pub loop-number-preserved : goal.loop-number-preserved
loop-number-preserved g c =
    let objects = shown_objects c.args.self.now in
    let name = c.args.name.now in
    let n = c.loop-number.number in
    let so_far = c.loop-number.invariant in
    let still = stands_still g.B.SectorDevice c.args.self.now c.args.reader.now c.loop-number.reader so_far.disk in
    record {
      device = c.in_ok-feed_object.ensures.reads.size ∙ so_far.device;
      disk = λ keeps. c.in_ok-feed_object.ensures.reads.disk keeps ∙ so_far.disk keeps;
      counted = c.in_ok-feed_object.ensures.reads.count ∙ so_far.counted;
      text = λ stands. subst (λ (l : List ℕ). Holds256 c.feed_object.new.hasher l) (text_so_far-next name objects n)
          (c.in_ok-feed_object.ensures.fed (still stands) (text_so_far name objects n) (so_far.text stands));
    }

pub returns-clause-exact : goal.returns-clause-exact
returns-clause-exact g c = λ stands.
    let objects = shown_objects c.args.self.now in
    let name = c.args.name.now in
    let last : c.loop-number.number ≡ object_count = omega arith in
    c.finalize.ensures (text_so_far name objects c.loop-number.number) (c.loop-number.invariant.text stands)
    ∙ ap (λ n. sha256 (text_so_far name objects n)) last ∙ ap sha256 (text_so_far-all name objects c.requires.within)
