use Rattle.object_maps_clients.proofs.changes.objects.an_unchanged_object_has_no_written_byte.Goals as goal

pub returns : goal.returns
returns c = c.new-patch.ensures.written 5
