use Rattle.object_maps_clients.proofs.EntryForms.{two_levels}
use Rattle.object_maps_clients.proofs.forms.a_directory_of_version_2_may_have_an_entry_of_two_levels.Goals as goal

pub returns : goal.returns
returns c = c.are_entries.ensures.1
    (two_levels c.args.frame.now c.args.payload.now c.requires.version c.requires.levels c.requires.length c.requires.pointer c.requires.others)
