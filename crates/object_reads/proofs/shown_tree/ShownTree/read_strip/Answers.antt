use Rattle.std.proofs.Common.{◌∙◌, ℕ, ap, sym}
use Rattle.std.specs.FinMap as finite
use Rattle.std.proofs.lemmas.Result.{err_from_is_err_and}
use Rattle.base.specs.tree.Places.Place.{Data}
use Rattle.tree_blocks.specs.Pointers.{pointers_of}
use Rattle.object_reads.specs.ShownTrees.{synced_objects}
use Rattle.object_reads.proofs.SyncedObjects.{bytes_long, holds_strip, stands_still}
use Rattle.object_reads.proofs.shown_tree.ShownTree.read_strip.Goals as goal

pub returns-in_err-read_indirect-clause-sound : goal.returns-in_err-read_indirect-clause-sound
returns-in_err-read_indirect-clause-sound g c = λ stands.
    let t = c.args.self.now in
    let b = bytes_long (finite.get (synced_objects t) c.args.id.0) c.args.size (sym c.requires.size) in
    let still = stands_still g.B.SectorDevice t c.args.reader.now c.find_strip.new.reader c.in_ok-pointer.ensures.reads.disk stands in
    let p = err_from_is_err_and c.from_residual-in_err-read_indirect.result c.from_residual-in_err-read_indirect.ensures.1 in
    rw (p.1, p.2) (c.in_err-read_indirect.ensures.sound stands.keeps (pointers_of t.tree.now) b.0
    (holds_strip g.B.SectorDevice t c.find_strip.new.reader still c.args.id.0 b.0 c.requires.number b.1 c.args.strip c.strip_number-number.result c.in_ok-pointer.pointer
    c.strip_number-number.ensures.number (c.in_ok-pointer.ensures.pointer stands)))

pub returns-clause-pointers : goal.returns-clause-pointers
returns-clause-pointers g c = λ stands k low.
    let t = c.args.self.now in
    let b = bytes_long (finite.get (synced_objects t) c.args.id.0) c.args.size (sym c.requires.size) in
    let still = stands_still g.B.SectorDevice t c.args.reader.now c.find_strip.new.reader c.in_ok-pointer.ensures.reads.disk stands in
    c.in_ok-read_indirect.ensures.exact stands.keeps (pointers_of t.tree.now) b.0
    (holds_strip g.B.SectorDevice t c.find_strip.new.reader still c.args.id.0 b.0 c.requires.number b.1 c.args.strip c.strip_number-number.result c.in_ok-pointer.pointer
    c.strip_number-number.ensures.number (c.in_ok-pointer.ensures.pointer stands)) k low
    ∙ ap (λ (m : ℕ). pointers_of t.tree.now (Data m k)) c.strip_number-number.ensures.number

pub returns-clause-blocks : goal.returns-clause-blocks
returns-clause-blocks g c = λ stands. record { top = (c.in_ok-pointer.ensures.blocks stands).top; strip = returns-clause-pointers g c stands }
