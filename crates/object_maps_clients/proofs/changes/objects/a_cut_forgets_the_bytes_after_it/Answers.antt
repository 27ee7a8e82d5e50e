use Rattle.object_maps_clients.proofs.changes.objects.a_cut_forgets_the_bytes_after_it.Goals as goal

pub returns-clause-after : goal.returns-clause-after
returns-clause-after c = c.set_length.ensures.written 100

pub returns-clause-before : goal.returns-clause-before
returns-clause-before c = c.set_length.ensures.written 99
