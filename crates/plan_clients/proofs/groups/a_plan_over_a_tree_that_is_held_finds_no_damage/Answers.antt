use Rattle.std.proofs.Common.{◌≡◌, ℕ, inl, inr, sym, ◌∙◌}
use Rattle.std.specs.Prelude.{◌≢◌}
use Rattle.std.proofs.lemmas.Result.{IfErr-weaker}
use Rattle.base.specs.declared.error.PoolError.{PoolError}
use Rattle.base.specs.declared.error.PoolError.TheVariants as error
use Rattle.group_plans.specs.GroupPlans.{IsHeldRefusal}
use Rattle.plan_clients.proofs.groups.a_plan_over_a_tree_that_is_held_finds_no_damage.Goals as goal

-- no refusal over a tree that is held is of a damaged block
undamaged : (e : PoolError) → IsHeldRefusal e → (kind address : ℕ) → e ≢ error.Damaged kind address
undamaged e (inl (inl space)) kind address damaged = absurd (let no : error.NoSpace ≡ error.Damaged kind address = sym space ∙ damaged in cc)
undamaged e (inl (inr memory)) kind address damaged = absurd (let no : error.NoMemory ≡ error.Damaged kind address = sym memory ∙ damaged in cc)
undamaged e (inr read) kind address damaged = absurd (let no : error.Read ≡ error.Damaged kind address = sym read ∙ damaged in cc)

pub returns : goal.returns
returns g c = IfErr-weaker c.plan_group.result _ _ undamaged (c.plan_group.ensures.sound c.requires.keeps c.requires.held)
