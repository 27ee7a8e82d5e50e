-- What the steps of a pool on its device do, one after another.
use Rattle.std.proofs.Common.{◌≡◌, ◌∙◌, ◌++◌, List, [], ◌∷◌, ap, sym, subst, append_assoc}
use Rattle.std.specs.Prelude.{IsTrue}
use Rattle.base.specs.declared.refused.RefusedCalls.{RefusedCalls}
use Rattle.base.specs.declared.step.Step.{Step}
use Rattle.base.specs.declared.step.Reply.{Reply}
use Rattle.base.specs.steps.Additions.{past_after}
use Rattle.base.specs.steps.Tables.{AreTablesExplained}
use Rattle.base.specs.steps.Runs.{Run}
use Rattle.base.specs.kept.Stored.{IsHeld}
use Rattle.device_model.specs.declared.device.SectorDevice.{Ghosts}
use Rattle.pool_core.specs.declared.state.PoolState.{PoolState}
use Rattle.pool_core.specs.Calls.{counted_in_turn}
use Rattle.pool_core.specs.ExplainedRuns.{RunsOn}
use Rattle.pool_tables.specs.Told.{held_with, state_with}
use Rattle.pool_core.specs.Holds.{HoldsOn}
use Rattle.pool_core.specs.KeptSafe.{IsKeptSafe, SafeOn, on_disk}
use Rattle.pool_core.specs.States.{refused_calls, shown, told}
use Rattle.pool_core.specs.Turns.{MakesStep, turned_state}

module _ {Dev : Type 0} {G : Ghosts Dev} where
  abbrev pub IsMade : List Step → List Reply → PoolState Dev G → PoolState Dev G → Type 0
  IsMade ss rs old new = Run MakesStep ss rs old new

  -- a run of the steps that are left goes on from the replies so far
  abbrev pub GoesOn : List Step → List Step → List Reply → PoolState Dev G → PoolState Dev G → Type 0
  GoesOn all left replies first now = (rest : List Reply) (end : PoolState Dev G) → IsMade left rest now end → IsMade all (replies ++ rest) first end

  -- by one step
  pub one_more : (items : List Step) (step : Step) (left : List Step) (replies more : List Reply) (reply : Reply) (all : List Step) (first old middle : PoolState Dev G)
      → items ≡ step ∷ left → more ≡ replies ++ reply ∷ [] → MakesStep step reply old middle → GoesOn all items replies first old → GoesOn all left more first middle
  one_more items step left replies more reply all first old middle these now told onward rest end after =
      let whole : IsMade items (reply ∷ rest) old end = rw these (middle, told, after) in
      rw (now, append_assoc) (onward (reply ∷ rest) end whole)

  -- they are a run of the definitions, and keep what a past explains
  pub runs_on : (ss : List Step) (rs : List Reply) (old new : PoolState Dev G) → IsMade ss rs old new → RunsOn ss rs (shown old) (shown new)
  runs_on [] [] old new same past explained =
      (past, ap (λ (p : PoolState Dev G). state_with (told p) past) same, subst (λ (p : PoolState Dev G). AreTablesExplained (shown p) past) (sym same) explained)
  runs_on (s ∷ ss) (r ∷ rs) old new (middle, one, rest) past explained =
      let turn = one.turns past in
      let later = turned_state s r (told old) (told middle) past in
      let more = runs_on ss rs middle new rest later.past (turn.explained explained) in
      (more.0, (later, turn.step explained, more.1), more.2)
  runs_on [] (r ∷ rs) old new h past explained = absurd h
  runs_on (s ∷ ss) [] old new h past explained = absurd h

  -- and what the device holds
  pub holds_on : IsTrue G.keeps_model → (ss : List Step) (rs : List Reply) (old new : PoolState Dev G) → IsMade ss rs old new → HoldsOn ss rs (told old) (told new)
  holds_on keep [] [] old new same past x =
      (past, ap (λ (p : PoolState Dev G). held_with (told p) past) same, subst (λ (p : PoolState Dev G). IsHeld (held_with (told p) past)) (sym same) x)
  holds_on keep (s ∷ ss) (r ∷ rs) old new (middle, one, rest) past x =
      let turn = one.turns past in
      let later = past_after s r (state_with (told old) past) in
      let kept = turn.held keep x in
      let more = holds_on keep ss rs middle new rest later kept in
      (more.0, (held_with (told middle) later, (turn.over keep x, kept), more.1), more.2)
  holds_on keep [] (r ∷ rs) old new h past x = absurd h
  holds_on keep (s ∷ ss) [] old new h past x = absurd h

  -- and the crash rule
  pub safe_on : IsTrue G.keeps_model → (ss : List Step) (rs : List Reply) (old new : PoolState Dev G) → IsMade ss rs old new → SafeOn ss rs old new
  safe_on keep [] [] old new same past x =
      (past, ap (λ (p : PoolState Dev G). on_disk p past) same, subst (λ (p : PoolState Dev G). IsKeptSafe (on_disk p past)) (sym same) x)
  safe_on keep (s ∷ ss) (r ∷ rs) old new (middle, one, rest) past x =
      let step = one.safe keep past x in
      let later = past_after s r (state_with (told old) past) in
      let more = safe_on keep ss rs middle new rest later step.kept in
      (more.0, (on_disk middle later, step, more.1), more.2)
  safe_on keep [] (r ∷ rs) old new h past x = absurd h
  safe_on keep (s ∷ ss) [] old new h past x = absurd h

  -- and count what the device refused, reply by reply
  pub count_on : (ss : List Step) (rs : List Reply) (old new : PoolState Dev G) → IsMade ss rs old new → refused_calls new ≡ counted_in_turn rs (refused_calls old)
  count_on [] [] old new same = ap (λ (p : PoolState Dev G). refused_calls p) same
  count_on (s ∷ ss) (r ∷ rs) old new (middle, one, rest) = count_on ss rs middle new rest ∙ ap (λ (calls : RefusedCalls). counted_in_turn rs calls) one.count
  count_on [] (r ∷ rs) old new h = absurd h
  count_on (s ∷ ss) [] old new h = absurd h
