use Rattle.object_maps_clients.proofs.paths.no_entry_of_a_damaged_directory_is_found.Goals as goal

pub unreachable-requires : goal.unreachable-requires
unreachable-requires g c = c.requires.damaged (c.in-Ok.ensures.sound c.requires.keeps).1
