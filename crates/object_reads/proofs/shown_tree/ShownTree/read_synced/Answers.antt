use Rattle.std.proofs.Common.{◌*◌, ◌+◌, ◌%◌, ◌<◌, ◌∙◌, ℕ, List, [], Option, sym, subst, arith}
use Rattle.std.specs.Prelude.{OnOk, unwrap_or}
use Rattle.std.specs.FinMap as finite
use Rattle.base.specs.formats.Fields.{pointer_in}
use Rattle.base.proofs.tree.Strips.{record-count}
use Rattle.tree_blocks.specs.Sources.{AreBytesFrom}
use Rattle.object_reads.specs.ShownTrees.{synced_objects}
use Rattle.object_reads.proofs.SyncedObjects.{bytes_long, holds_record, record_begins, record_formed, stands_still}
use Rattle.object_reads.proofs.shown_tree.ShownTree.read_synced.Goals as goal

pub read_strip-requires-clause-strip : goal.read_strip-requires-clause-strip
read_strip-requires-clause-strip g c = omega (arith, c.requires.index, record-count)

pub strip_number-number-requires-clause-index : goal.strip_number-number-requires-clause-index
strip_number-number-requires-clause-index g c = omega (arith, c.requires.index, record-count)

pub returns-in_err-pointer-clause-sound : goal.returns-in_err-pointer-clause-sound
returns-in_err-pointer-clause-sound g c = λ stands.
    let t = c.args.self.now in
    let b = bytes_long (finite.get (synced_objects t) c.args.id.0) c.in-Some.size c.in-Some.ensures in
    let k_low : c.args.index % 84 < 84 = omega arith in
    absurd (c.in_err-pointer.ensures.sound
    (record_formed g.B.SectorDevice t c.args.reader.now stands c.args.id.0 b.0 c.requires.number b.1 c.args.index c.strip_number-number.result c.requires.index c.strip_number-number.ensures.number c.in-Some.size
    (pointer_in c.read_strip.new.blocks.indirect (c.args.index % 84)) b.2 (c.in_ok-read_strip.ensures.pointers stands (c.args.index % 84) k_low)))

pub returns-clause-exact : goal.returns-clause-exact
returns-clause-exact g c = λ stands.
    let t = c.args.self.now in
    let b = bytes_long (finite.get (synced_objects t) c.args.id.0) c.in-Some.size c.in-Some.ensures in
    let k_low : c.args.index % 84 < 84 = omega arith in
    let still = stands_still g.B.SectorDevice t c.args.reader.now c.read_strip.new.reader c.in_ok-read_strip.ensures.reads.disk stands in
    let begins = record_begins g.B.SectorDevice t c.read_strip.new.reader still c.args.id.0 b.0 c.requires.number b.1 c.args.index c.strip_number-number.result c.requires.index c.strip_number-number.ensures.number in
    subst (λ (o : Option (List ℕ)). OnOk c.read_part.result (AreBytesFrom (4032 * c.args.index + c.args.start) (unwrap_or o []) c.read_part.new.into)) (sym b.1)
    (subst (λ (first : ℕ). OnOk c.read_part.result (AreBytesFrom (first + c.args.start) b.0 c.read_part.new.into)) begins
    (c.read_part.ensures.exact stands.keeps b.0
    (holds_record g.B.SectorDevice t c.read_strip.new.reader still c.args.id.0 b.0 c.requires.number b.1 c.args.index c.strip_number-number.result c.requires.index c.strip_number-number.ensures.number
    c.in_ok-pointer.pointer (c.in_ok-pointer.ensures.pointer ∙ c.in_ok-read_strip.ensures.pointers stands (c.args.index % 84) k_low))))

pub returns-clause-sound : goal.returns-clause-sound
returns-clause-sound g c = λ stands.
    let t = c.args.self.now in
    let b = bytes_long (finite.get (synced_objects t) c.args.id.0) c.in-Some.size c.in-Some.ensures in
    let k_low : c.args.index % 84 < 84 = omega arith in
    let still = stands_still g.B.SectorDevice t c.args.reader.now c.read_strip.new.reader c.in_ok-read_strip.ensures.reads.disk stands in
    c.read_part.ensures.sound stands.keeps b.0 b.2
    (holds_record g.B.SectorDevice t c.read_strip.new.reader still c.args.id.0 b.0 c.requires.number b.1 c.args.index c.strip_number-number.result c.requires.index c.strip_number-number.ensures.number
    c.in_ok-pointer.pointer (c.in_ok-pointer.ensures.pointer ∙ c.in_ok-read_strip.ensures.pointers stands (c.args.index % 84) k_low))
