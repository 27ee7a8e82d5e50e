use Rattle.std.proofs.Common.{arith}
use Rattle.std.proofs.lemmas.Bool.{false_from_ne_true}
use Rattle.base.specs.formats.Fields.{entry_in}
use Rattle.object_maps_clients.proofs.EntryForms.{not_above_one_level}
use Rattle.object_maps_clients.proofs.forms.an_entry_of_one_level_is_not_longer_than_one_level_holds.Goals as goal

pub returns : goal.returns
returns c = false_from_ne_true c.are_entries.result (λ accepted.
    not_above_one_level c.args.frame.now (entry_in c.args.payload.now 62) c.requires.levels c.requires.length (c.are_entries.ensures.0 accepted 62 (omega arith)))
