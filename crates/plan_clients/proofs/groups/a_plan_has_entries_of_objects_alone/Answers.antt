use Rattle.std.proofs.Common.{◌≡◌, ◌<◌, Option, None, Some, arith, refl}
use Rattle.std.proofs.lemmas.Result.{IfOk-weaker}
use Rattle.tree_plans.specs.Pointers.{entry_of}
use Rattle.plan_clients.proofs.groups.a_plan_has_entries_of_objects_alone.Goals as goal

-- no entry is of a number that has no object
none_past : {X : Type 0} (o : Option X) → ((x : X) → o ≡ Some x → 5292 < 5292) → o ≡ None
none_past None low = refl
none_past (Some x) low = let past = low x refl in absurd (omega (arith, past))

pub returns : goal.returns
returns g c = IfOk-weaker c.plan_group.result _ _ (λ p made. none_past (entry_of p.entries.entries 5292) (made.1.upper.entries 5292)) c.plan_group.ensures.tree
