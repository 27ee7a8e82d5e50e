use Rattle.std.proofs.Common.{◌≡◌, ap, arith}
use Rattle.std.proofs.lemmas.Bool.{false_from_ne_true}
use Rattle.base.specs.declared.pointer.Pointer.{Pointer}
use Rattle.base.specs.formats.Fields.{no_pointer, pointer_in}
use Rattle.base.proofs.tree.Strips.{indirect-count}
use Rattle.object_maps_clients.proofs.forms.a_strip_names_no_record_past_the_length.Goals as goal

pub are_records-requires-clause-number : goal.are_records-requires-clause-number
are_records-requires-clause-number c = omega (arith, indirect-count)

-- record 1 of the second strip begins at byte 342,720
pub returns : goal.returns
returns c = false_from_ne_true c.are_records.result (λ accepted.
    let none : pointer_in c.args.payload.now 1 ≡ no_pointer = (c.are_records.ensures.0 accepted 1 (omega arith)).1 (omega arith) in
    omega (arith, c.requires.second, ap (λ (p : Pointer). p.address) none))
