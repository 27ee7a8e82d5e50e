use Rattle.std.proofs.Common.{arith}
use Rattle.base.proofs.tree.Strips.{indirect-count}
use Rattle.object_maps_clients.proofs.EntryForms.{first_record_alone}
use Rattle.object_maps_clients.proofs.forms.a_strip_may_name_each_record_before_the_end.Goals as goal

pub are_records-requires-clause-number : goal.are_records-requires-clause-number
are_records-requires-clause-number c = omega (arith, indirect-count)

pub returns : goal.returns
returns c = c.are_records.ensures.1 (first_record_alone c.args.payload.now c.requires.first c.requires.others)
