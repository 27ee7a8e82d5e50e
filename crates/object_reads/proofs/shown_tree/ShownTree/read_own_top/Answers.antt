use Rattle.std.proofs.Common.{◌<◌, length, arith}
use Rattle.std.proofs.lemmas.Result.{err_from_is_err_and}
use Rattle.tree_blocks.specs.Pointers.{pointers_of}
use Rattle.object_reads.proofs.SyncedObjects.{holds_top}
use Rattle.object_reads.proofs.shown_tree.ShownTree.read_own_top.Goals as goal

pub returns-in_err-read_top-clause-sound : goal.returns-in_err-read_top-clause-sound
returns-in_err-read_top-clause-sound g c = λ stands.
    let t = c.args.self.now in
    let low : c.args.id.0 < length t.tree.now.entries.items = omega (arith, c.requires.number, t.tree.now.entries.ok.0, t.tree.now.all_objects) in
    let held = holds_top g.B.SectorDevice t c.args.reader.now stands c.args.id.0 c.index.result.now c.top-top.result c.requires.number low c.index.ensures c.top-top.ensures (c.requires.long stands) in
    let p = err_from_is_err_and c.from_residual.result c.from_residual.ensures.1 in
    rw (p.1, p.2) (c.in_err-read_top.ensures.sound stands.keeps (pointers_of t.tree.now) held.0 held.1)

pub returns-clause-strips : goal.returns-clause-strips
returns-clause-strips g c = λ stands.
    let t = c.args.self.now in
    let low : c.args.id.0 < length t.tree.now.entries.items = omega (arith, c.requires.number, t.tree.now.entries.ok.0, t.tree.now.all_objects) in
    let held = holds_top g.B.SectorDevice t c.args.reader.now stands c.args.id.0 c.index.result.now c.top-top.result c.requires.number low c.index.ensures c.top-top.ensures (c.requires.long stands) in
    c.in_ok-read_top.ensures.exact stands.keeps (pointers_of t.tree.now) held.0 held.1

pub returns-clause-blocks : goal.returns-clause-blocks
returns-clause-blocks g c = λ stands. record { top = λ is_read. returns-clause-strips g c stands; strip = (c.requires.blocks stands).strip }
