use Rattle.std.proofs.Common.{rules, ◌≡◌, ◌<◌, ◌∙◌, ℕ, length, ap, subst, sym, arith}
use Rattle.std.specs.FinMap as finite
use Rattle.std.proofs.lemmas.Result.{IfErr-weaker}
use Rattle.base.specs.declared.error.PoolError.TheVariants as error
use Rattle.base.specs.formats.Fields.{pointer_in}
use Rattle.base.specs.kept.PlacedTrees.{IsLong}
use Rattle.base.specs.tree.Places.{strip_number}
use Rattle.base.specs.tree.Places.Place.{Indirect}
use Rattle.tree_blocks.specs.Pointers.{pointers_of}
use Rattle.object_reads.specs.ShownTrees.{synced_objects}
use Rattle.object_reads.proofs.SyncedObjects.{bytes_long, entry_is_long, short_first, short_later, strip_formed}
use Rattle.object_reads.proofs.shown_tree.ShownTree.find_strip.Goals as goal

pub returns-then-is_long-clause-sound : goal.returns-then-is_long-clause-sound
returns-then-is_long-clause-sound g c = λ stands.
    let t = c.args.self.now in
    let n = c.args.id.0 in
    let b = bytes_long (finite.get (synced_objects t) n) c.args.size (sym c.requires.size) in
    let low : n < length t.tree.now.entries.items = omega (arith, c.requires.number, t.tree.now.entries.ok.0, t.tree.now.all_objects) in
    let long = subst IsLong b.1 (entry_is_long t.tree.now n c.index-entry.result.now c.requires.number low c.index-entry.ensures (finite.get (synced_objects t) n) (t.tree.now.sized n) (sym c.is_long.ensures ∙ c.if-is_long.true)) in
    IfErr-weaker c.strip_pointer.result (λ _. ⊥) (λ e. e ≡ error.Read) (λ e never. absurd never) (c.strip_pointer.ensures.sound
    (strip_formed g.B.SectorDevice t c.args.reader.now stands n b.0 c.requires.number b.1 c.args.strip c.args.size (pointer_in c.read_own_top.new.blocks.top c.args.strip) c.requires.strip long b.2
    (c.in_ok-read_own_top.ensures.strips stands c.args.strip c.requires.strip)))

pub returns-then-strip-ne0-clause-pointer : goal.returns-then-strip-ne0-clause-pointer
returns-then-strip-ne0-clause-pointer g c = λ stands.
    let t = c.args.self.now.tree.now in
    let low : c.args.id.0 < length t.entries.items = omega (arith, c.requires.number, t.entries.ok.0, t.all_objects) in
    sym (short_later t c.args.id.0 c.index-entry.result.now c.requires.number low c.index-entry.ensures c.args.strip (sym c.is_long.ensures ∙ c.if-is_long.false) c.if-strip-ne0.true)

pub returns-clause-pointer : goal.returns-clause-pointer
returns-clause-pointer g c = λ stands.
    let t = c.args.self.now.tree.now in
    let low : c.args.id.0 < length t.entries.items = omega (arith, c.requires.number, t.entries.ok.0, t.all_objects) in
    let first : c.args.strip ≡ 0 = search (rules, arith) in
    sym (ap (λ (j : ℕ). pointers_of t (Indirect (strip_number c.args.id.0 j))) first
    ∙ short_first t c.args.id.0 c.index-entry.result.now c.requires.number low c.index-entry.ensures (sym c.is_long.ensures ∙ c.if-is_long.false))
