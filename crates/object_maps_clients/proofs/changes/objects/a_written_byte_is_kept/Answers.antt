use Rattle.std.proofs.Common.{◌∙◌}
use Rattle.object_maps_clients.proofs.changes.objects.a_written_byte_is_kept.Goals as goal

pub returns-clause-here : goal.returns-clause-here
returns-clause-here c = c.write.ensures.written 5

pub returns-clause-others : goal.returns-clause-others
returns-clause-others c = c.write.ensures.written 6 ∙ c.reserve_write.ensures.written 6
