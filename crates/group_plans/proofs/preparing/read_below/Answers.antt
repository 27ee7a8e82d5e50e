use Rattle.std.proofs.Common.{rules, ◌≡◌, ◌+◌, ◌∙◌, ◌*◌, ℕ, Some, ap, subst, sym}
use Rattle.base.specs.disk.Disk.{bytes_of}
use Rattle.base.specs.tree.Places.{record_start, strip_number}
use Rattle.base.specs.tree.Tree.{IsRecord}
use Rattle.base.proofs.tree.Strips.{record-low}
use Rattle.tree_blocks.specs.TreeObjects.{objects_of}
use Rattle.tree_blocks.specs.Sources.{AreBytesFrom, object_length}
use Rattle.extents.specs.Tables.{patches_of}
use Rattle.group_plans.specs.Prepared.{number_of_record}
use Rattle.group_plans.proofs.RecordReads.{on_ok, read_is_below, record_is, start_is, there_of}
use Rattle.group_plans.proofs.preparing.read_below.Goals as goal

pub hides-requires-clause-index : goal.hides-requires-clause-index
hides-requires-clause-index g c = rw c.number.ensures (record-low c.args.place.strip c.args.place.index c.requires.strip c.requires.index)

pub returns-clause-exact : goal.returns-clause-exact
returns-clause-exact g c = λ keeps holds.
    let objects = (objects_of c.args.tree.now) in
    let image = bytes_of (g.B.SectorDevice.disk c.args.reader.now).now in
    let place = c.args.place in
    let told : object_length objects place.id.0 ≡ Some c.in-Some.size = search rules in
    let at = there_of objects place.id.0 c.in-Some.size told in
    let is = record_is image c.args.frame.now objects place c.args.pointer.now at.0 c.requires.number c.requires.strip c.requires.index holds at.1 in
    let number : c.strip_number-number.result ≡ strip_number place.id.0 place.strip = c.strip_number-number.ensures.number in
    let start : record_start c.strip_number-number.result place.index + 0 ≡ 4032 * number_of_record place + 0 = ap (λ (m : ℕ). record_start m place.index + 0) number ∙ ap (λ (s : ℕ). s + 0) (start_is place c.requires.number) in
    on_ok c.read_part.result
    (λ reads. read_is_below (patches_of c.args.extents.now) objects place.id.0 (number_of_record place) at.0 c.read_part.new.into at.1 (subst (λ (s : ℕ). AreBytesFrom s at.0 c.read_part.new.into) start reads))
    (c.read_part.ensures.exact keeps at.0 (subst (λ (m : ℕ). IsRecord image c.args.frame.now m place.index c.args.pointer.now at.0) (sym number) is))

pub returns-clause-sound : goal.returns-clause-sound
returns-clause-sound g c = λ keeps holds.
    let objects = (objects_of c.args.tree.now) in
    let image = bytes_of (g.B.SectorDevice.disk c.args.reader.now).now in
    let place = c.args.place in
    let told : object_length objects place.id.0 ≡ Some c.in-Some.size = search rules in
    let at = there_of objects place.id.0 c.in-Some.size told in
    let is = record_is image c.args.frame.now objects place c.args.pointer.now at.0 c.requires.number c.requires.strip c.requires.index holds at.1 in
    c.read_part.ensures.sound keeps at.0 at.2 (subst (λ (m : ℕ). IsRecord image c.args.frame.now m place.index c.args.pointer.now at.0) (sym c.strip_number-number.ensures.number) is)
