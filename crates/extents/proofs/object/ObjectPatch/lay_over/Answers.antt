use Rattle.std.proofs.Common.{rules, ◌≡◌, ◌+◌, ◌*◌, Some, true, length, ap, sym, ◌∙◌}
use Rattle.std.specs.Prelude.{is_some, option_map}
use Rattle.extents.specs.Objects.{patch_of}
use Rattle.extents.specs.Patches.{length_over}
use Rattle.extents.proofs.ReadRecords.{bytes_over, some_at}
use Rattle.extents.proofs.object.ObjectPatch.lay_over.Goals as goal

pub returns-clause-bytes : goal.returns-clause-bytes
returns-clause-bytes c = λ object is was.
    let some : is_some c.length_over.result ≡ true = search rules in
    let size = some_at c.length_over.result some in
    let has : length_over c.args.self.now.basis (option_map length object) ≡ Some size.0 = ap (length_over c.args.self.now.basis) is ∙ sym c.length_over.ensures ∙ size.1 in
    bytes_over (patch_of c.args.self.now) object (4032 * c.args.index + c.args.start) size.0 c.args.into.now c.lay_on.new.into c.args.self.now.sized has
    c.lay_on.ensures.size c.lay_on.ensures.bytes was
