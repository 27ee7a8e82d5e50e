-- A step and a plan to fail take one turn of the handle each, from what the session had seen.
use Rattle.std.proofs.Common.{◌≡◌, ◌∙◌, ◌+◌, ◌++◌, ◌∷◌, [], ℕ, List, length, inl, inr, sym, ap, length-append}
use Rattle.std.specs.Prelude.{◌⊎◌, false}
use Rattle.std.proofs.lemmas.Bool.{false≢true}
use Rattle.base.specs.declared.step.Step.{Step}
use Rattle.base.specs.declared.step.Reply.{Reply}
use Rattle.pool_threads.specs.Views.{SeenPool}
use Rattle.script_lines.specs.declared.command.PoolCommand.TheVariants as pool
use Rattle.script_sessions.specs.Plans.{is_begin}
use Rattle.script_sessions.specs.SharedPools.{AsksOwned, AsksShared, HasNoRoom, LooksAt, view_in}
use Rattle.script_sessions.specs.declared.shared_pool.SharedPool.{SharedPool}
use Rattle.word_lock.specs.declared.rule.Turn.{Turn}
use Rattle.word_lock.specs.Seats.{kin, seen, turns}
use Rattle.word_lock.specs.Turns.{turn}

-- the turns of the session's handle
abbrev pub turns_in : SharedPool → List (Turn SeenPool)
turns_in shared = turns shared.last.seat

-- the handle has had one turn more, from what the session had seen to what it has seen then
abbrev pub OneTurn : SharedPool → SharedPool → Type 0
OneTurn old new = turns_in new ≡ turns_in old ++ turn (view_in old) (view_in new) ∷ []

pub one_more : (old new : SharedPool) → OneTurn old new → length (turns_in new) ≡ length (turns_in old) + 1
one_more old new one = ap length one ∙ length-append (turns_in old) (turn (view_in old) (view_in new) ∷ [])

module _ (W : Type 0) (moment : ℕ) (old new : SharedPool) where
  by_owner : (s : Step) (reply : Reply) → AsksOwned W (pool.Step s) moment reply old new → OneTurn old new
  by_owner s reply owned =
      let by = owned.by_handle in
      let a = by.after.handle.seat in
      let b = by.before.handle.seat in
      let made = by.asks.1.made in
      let took : made.took ≡ view_in old = made.alone (ap (λ s. kin s) by.back.seat_is ∙ by.only) ∙ ap (λ s. seen s) by.back.seat_is in
      ap (λ s. turns s) by.left
      ∙ made.turn
      ∙ ap (λ (v : SeenPool). turns b ++ turn v (seen a) ∷ []) took
      ∙ ap (λ s. turns s ++ turn (view_in old) (seen a) ∷ []) by.back.seat_is
      ∙ ap (λ s. turns_in old ++ turn (view_in old) (seen s) ∷ []) (sym by.left)

  pub step_takes_one : (s : Step) (reply : Reply) → is_begin (pool.Step s) ≡ false → AsksShared W (pool.Step s) moment reply old new → OneTurn old new
  step_takes_one s reply other made = by_asks made.asks
    where
      by_asks : AsksOwned W (pool.Step s) moment reply old new ⊎ HasNoRoom (pool.Step s) old reply new → OneTurn old new
      by_asks (inl owned) = by_owner s reply owned
      by_asks (inr none) = absurd (false≢true (sym other ∙ none.0))

-- and so it has by a plan to fail
pub look_takes_one : (old new : SharedPool) → LooksAt old new → OneTurn old new
look_takes_one old new at =
    let by = at.looked in
    let a = by.after.seat in
    ap (λ s. turns s) by.left
    ∙ by.looked.turn
    ∙ ap (λ s. turns s ++ turn (seen a) (seen a) ∷ []) by.back.seat_is
    ∙ ap (λ s. turns_in old ++ turn (seen s) (seen s) ∷ []) (sym by.left)
    ∙ ap (λ (v : SeenPool). turns_in old ++ turn v (view_in new) ∷ []) at.same_view

-- one turn after another
pub two_turns : (old middle new : SharedPool) → OneTurn old middle → OneTurn middle new → turns_in new ≡ (turns_in old ++ turn (view_in old) (view_in middle) ∷ []) ++ turn (view_in middle) (view_in new) ∷ []
two_turns old middle new first second = second ∙ ap (λ (ts : List (Turn SeenPool)). ts ++ turn (view_in middle) (view_in new) ∷ []) first
