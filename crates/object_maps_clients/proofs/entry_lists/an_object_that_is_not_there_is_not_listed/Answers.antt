use Rattle.std.proofs.lemmas.Result.{IfOk-weaker}
use Rattle.object_maps_clients.proofs.entry_lists.an_object_that_is_not_there_is_not_listed.Goals as goal

pub returns : goal.returns
returns g c =
    IfOk-weaker c.list_entries.result _ _ (λ l lists size has. (lists.each (record { 0 = 130 }) size has).0 c.requires.absent) (c.list_entries.ensures.listed c.requires.keeps)
