-- What a session answers that has a pool, and still has one then.
use Rattle.std.proofs.Common.{◌≡◌, ◌∙◌, ℕ, refl, ap, subst}
use Rattle.std.specs.Prelude.{Result, Ok, Err, is_ok, true}
use Rattle.std.proofs.lemmas.Bool.{false≢true}
use Rattle.base.specs.declared.step.Reply.{Reply}
use Rattle.device_model.specs.MemState.{MemState}
use Rattle.device_model.specs.declared.fault.Fault.{Fault}
use Rattle.script_lines.specs.declared.answer.Answer.{Answer}
use Rattle.script_lines.specs.declared.answer.Answer.TheVariants as answer
use Rattle.script_lines.specs.declared.command.Command.TheVariants as command
use Rattle.script_lines.specs.declared.command.PoolCommand.{PoolCommand}
use Rattle.scripts.specs.Places.{AsksIn, PlansFault, has_device, has_pool}
use Rattle.scripts.specs.Sessions.{Does, place_in, session_moment}
use Rattle.scripts.specs.declared.mounted_pool.MountedPool as mounted
use Rattle.scripts.specs.declared.place.Place.{Place}
use Rattle.scripts.specs.declared.place.Place.TheVariants.{Nothing, Device, Pool}
use Rattle.scripts.specs.declared.session.BadCommand.{BadCommand}
use Rattle.scripts.specs.declared.session.Session.{Session}

-- a place that has a pool
pub pool_there : {P : Type 0} (place : Place MemState P) → has_pool place ≡ true → (pool : P) × (place ≡ Pool pool)
pool_there Nothing there = absurd (false≢true there)
pool_there (Device device) there = absurd (false≢true there)
pool_there (Pool pool) there = (pool, refl)

pub same_reply : (a b : Reply) → ◌≡◌ {A = Result Answer BadCommand} (Ok (answer.Reply a)) (Ok (answer.Reply b)) → a ≡ b
same_reply a b same = cc

module _ {R P : Type 0} (G : mounted.Ghosts P MemState R) (Plans : Fault → ℕ → P → P → Type 0) where
  -- what was answered by a pool
  pub record IsAskedIn (asked : PoolCommand) (moment : ℕ) (told : Result Answer BadCommand) (old new : P) : Type 0 where
    pub reply : Reply
    pub told_is : told ≡ Ok (answer.Reply reply)
    pub made : G.asks asked moment reply old new

  module _ (s new : Session R MemState P) (old_pool new_pool : P) (was : place_in s ≡ Pool old_pool) (is : place_in new ≡ Pool new_pool) where
    -- the pool that is there answers
    pub asked_there : (asked : PoolCommand) (told : Result Answer BadCommand) → is_ok told ≡ has_pool (place_in s) → Does G Plans (command.Pool asked) s told new → IsAskedIn asked (session_moment s) told old_pool new_pool
    asked_there asked (Ok told) answered made =
        by_answer told
        (subst (λ (p : Place MemState P). AsksIn (G.asks asked (session_moment s)) p told (Pool new_pool)) was (subst (λ (p : Place MemState P). AsksIn (G.asks asked (session_moment s)) (place_in s) told p) is made))
      where
        by_answer : (told : Answer) → AsksIn {Dev = MemState} (G.asks asked (session_moment s)) (Pool old_pool) told (Pool new_pool) → IsAskedIn asked (session_moment s) (Ok told) old_pool new_pool
        by_answer (answer.Reply reply) made = record { reply = reply; told_is = refl; made = made }
        by_answer (answer.Imported _ _ _) made = absurd made
        by_answer (answer.Crashed _) made = absurd made
    asked_there asked (Err e) answered same = absurd (false≢true (answered ∙ ap (λ (p : Place MemState P). has_pool p) was))

    -- and plans a fault
    pub planned_there : (fault : Fault) (n : ℕ) (told : Result Answer BadCommand) → is_ok told ≡ has_device (place_in s) → Does G Plans (command.Fail fault n) s told new → Plans fault n old_pool new_pool
    planned_there fault n (Ok told) answered plans =
        (subst (λ (p : Place MemState P). PlansFault Plans fault n p told (Pool new_pool)) was (subst (λ (p : Place MemState P). PlansFault Plans fault n (place_in s) told p) is plans)).1
    planned_there fault n (Err e) answered same = absurd (false≢true (answered ∙ ap (λ (p : Place MemState P). has_device p) was))
