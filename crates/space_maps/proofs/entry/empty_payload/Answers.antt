use Rattle.std.proofs.Common.{ap, ◌∙◌}
use Rattle.space_maps.specs.Nodes.{map_entry_in}
use Rattle.space_maps.proofs.PayloadEntries.{zero_entry}
use Rattle.space_maps.proofs.entry.empty_payload.Goals as goal

pub returns-clause-none : goal.returns-clause-none
returns-clause-none c = λ e low. ap (λ l. map_entry_in l e) c.zero_payload.ensures ∙ zero_entry e low
