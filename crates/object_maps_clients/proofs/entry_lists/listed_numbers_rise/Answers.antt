use Rattle.std.proofs.Common.{ℕ, List, arith, subst}
use Rattle.std.proofs.lemmas.Result.{IfOk-weaker}
use Rattle.base.specs.declared.names.ObjectId.{ObjectId}
use Rattle.trees.specs.EntryLists.{AreRising}
use Rattle.object_maps_clients.proofs.entry_lists.listed_numbers_rise.Goals as goal

pub returns : goal.returns
returns g c =
    IfOk-weaker c.list_entries.result _ _
    (λ l rising a b others is. let two = subst (λ (list : List (ObjectId × ℕ)). AreRising 0 list 5292) is rising in omega (arith, two.2.0)) c.list_entries.ensures.form
