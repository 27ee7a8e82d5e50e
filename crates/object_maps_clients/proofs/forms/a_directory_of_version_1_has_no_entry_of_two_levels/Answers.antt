use Rattle.std.proofs.Common.{arith}
use Rattle.std.proofs.lemmas.Bool.{false_from_ne_true}
use Rattle.base.specs.formats.Fields.{entry_in}
use Rattle.object_maps_clients.proofs.EntryForms.{no_two_levels}
use Rattle.object_maps_clients.proofs.forms.a_directory_of_version_1_has_no_entry_of_two_levels.Goals as goal

pub returns : goal.returns
returns c = false_from_ne_true c.are_entries.result (λ accepted.
    no_two_levels c.args.frame.now (entry_in c.args.payload.now 62) c.requires.version c.requires.levels (c.are_entries.ensures.0 accepted 62 (omega arith)))
