use Rattle.std.proofs.Common.{◌≡◌, ◌++◌, List, ℕ, ap, ◌∙◌, refl}
use Rattle.std.specs.FinMap as finite
use Rattle.std.specs.Int.{to_le_bytes, w32}
use Rattle.std.proofs.lemmas.Result.{on_ok_weaker}
use Rattle.object_reads.specs.Digests.{Feeds, text_at}
use Rattle.tree_blocks.specs.Sources.{object_bytes}
use Rattle.object_reads.proofs.RisingObjects.{text_at-there}
use Rattle.object_reads.specs.ShownTrees.{shown_objects}
use Rattle.object_reads.proofs.Feeds.{feeds_both}
use Rattle.object_reads.proofs.ReadParts.{within_long}
use Rattle.object_reads.proofs.shown_tree.ShownTree.feed_object.Goals as goal

pub feed_bytes-requires-clause-within : goal.feed_bytes-requires-clause-within
feed_bytes-requires-clause-within g c =
    let objects = shown_objects c.args.self.now in
    within_long (finite.get objects c.args.id.0) c.args.id.0 c.in-Some.length (c.requires.within c.args.id.0) c.in-Some.ensures

pub returns-clause-fed : goal.returns-clause-fed
returns-clause-fed g c = λ stands.
    let objects = shown_objects c.args.self.now in
    let n = c.args.id.0 in
    let number = c.to_le_bytes.result in
    let size = c.to_le_bytes-2.result in
    let head = feeds_both number size (number ++ size) c.args.hasher.now c.update.new.self c.update-2.new.self c.update.ensures c.update-2.ensures refl in
    let whole : number ++ size ++ object_bytes objects n ≡ text_at objects n =
    ap (λ (l : List ℕ). l ++ size ++ object_bytes objects n) c.to_le_bytes.ensures
    ∙ ap (λ (l : List ℕ). to_le_bytes w32 n ++ l ++ object_bytes objects n) c.to_le_bytes-2.ensures ∙ text_at-there objects n c.in-Some.length c.in-Some.ensures in
    on_ok_weaker c.feed_bytes.result
    (λ (fed : Feeds (object_bytes objects n) c.update-2.new.self c.feed_bytes.new.hasher). feeds_both (number ++ size) (object_bytes objects n) (text_at objects n)
    c.args.hasher.now c.update-2.new.self c.feed_bytes.new.hasher head fed whole) (c.feed_bytes.ensures.fed stands)
