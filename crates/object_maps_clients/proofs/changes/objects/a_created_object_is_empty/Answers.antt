use Rattle.object_maps_clients.proofs.changes.objects.a_created_object_is_empty.Goals as goal

pub returns : goal.returns
returns c = c.create.ensures.written 0
