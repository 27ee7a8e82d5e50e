use Rattle.std.proofs.Common.{ℕ, List, subst}
use Rattle.std.specs.Prelude.{IfOk}
use Rattle.std.proofs.lemmas.Result.{IfErr-weaker, IfOk-weaker}
use Rattle.object_views.specs.Listings.{IsListingOf, TellsListingDamage}
use Rattle.object_views.proofs.Listings.{first_told, not_listed}
use Rattle.object_views.proofs.clients.a_list_tells_the_first_bad_directory.Goals as goal

pub returns-clause-no_list : goal.returns-clause-no_list
returns-clause-no_list g c = λ keeps image u name is pool bad.
    IfOk-weaker c.list_pool.result _ _ (λ l lists. not_listed image u name pool bad l lists) (subst (λ (i : List ℕ). IfOk c.list_pool.result (IsListingOf i)) is (c.list_pool.ensures.listed keeps))

pub returns-clause-told : goal.returns-clause-told
returns-clause-told g c = λ keeps image u name is pool root bad.
    IfErr-weaker c.list_pool.result _ _ (λ e refused kind address told.
    first_told image u name pool bad e kind address told root (subst (λ (i : List ℕ). TellsListingDamage i e kind address) is (refused.damaged keeps kind address told)))
    c.list_pool.ensures.refused
