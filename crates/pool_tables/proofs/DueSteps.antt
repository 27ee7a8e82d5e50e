-- How a step that is due may be refused by its tests: as suspended, a log write for space, and a close at the last
-- group as not ready.
use Rattle.std.proofs.Common.{◌≡◌, ◌≤◌, ◌⊎◌, ℕ, Bool, true, false, not, ◌&&◌, ◌||◌, inl, inr, refl, ap, sym, subst, ◌∙◌}
use Rattle.std.specs.Prelude.{[], ◌∷◌, ◌==◌, Option, Some, None, if◌then◌else◌, is_none, is_some, length, nat_le}
use Rattle.std.proofs.lemmas.Bool.{false≢true, leb-true}
use Rattle.base.specs.declared.error.PoolError.{PoolError}
use Rattle.base.specs.declared.error.PoolError.TheVariants as error
use Rattle.base.specs.declared.step.Step as declared_step
use Rattle.base.specs.declared.step.Step.TheVariants as step
use Rattle.base.specs.formats.Limits.{last_number}
use Rattle.base.specs.steps.Logs.{awaits_flush}
use Rattle.base.specs.steps.Refusals.{first_refusal, fsync_refusal, quiesced_group, refused_if}
use Rattle.base.specs.steps.Runs.{refusal_of_step}
use Rattle.base.specs.steps.Shown.{Shown}
use Rattle.pool_tables.specs.Duties.{closing_step, is_log_pending, is_quiescent, log_step, step_to_sync, step_up_to, syncing_step}

none-not-some : {A : Type 0} (o : Option A) → is_none o ≡ not (is_some o)
none-not-some None = refl
none-not-some (Some a) = refl

-- the two tests of most steps
module _ (e : PoolError) where
  one_test : (a b : Bool) → b ≡ false → first_refusal (refused_if a error.Suspended ∷ refused_if b error.NotReady ∷ []) ≡ Some e → e ≡ error.Suspended
  one_test true b none is = let same : error.Suspended ≡ e = cc in sym same
  one_test false true none is = absurd (false≢true (sym none))
  one_test false false none is = absurd (let no_way : None ≡ Some e = is in cc)

  no_test : (a b : Bool) → a ≡ false → b ≡ false → first_refusal (refused_if a error.Suspended ∷ refused_if b error.NotReady ∷ []) ≡ Some e → ⊥
  no_test true b runs none is = false≢true (sym runs)
  no_test false true runs none is = false≢true (sym none)
  no_test false false runs none is = let no_way : None ≡ Some e = is in cc

  last_test : (a b : Bool) → a ≡ false → first_refusal (refused_if a error.Suspended ∷ refused_if b error.NotReady ∷ []) ≡ Some e → (e ≡ error.NotReady) × (b ≡ true)
  last_test true b runs is = absurd (false≢true (sym runs))
  last_test false true runs is = let same : error.NotReady ≡ e = cc in (sym same, refl)
  last_test false false runs is = absurd (let no_way : None ≡ Some e = is in cc)

  write_tests : (a p n : Bool) → (a || not p) ≡ true → first_refusal (refused_if a error.Suspended ∷ refused_if p error.NotReady ∷ refused_if n error.NoLogSpace ∷ []) ≡ Some e
      → (e ≡ error.Suspended) ⊎ (e ≡ error.NoLogSpace)
  write_tests true p n due is = let same : error.Suspended ≡ e = cc in inl (sym same)
  write_tests false true n due is = absurd (false≢true due)
  write_tests false false true due is = let same : error.NoLogSpace ≡ e = cc in inr (sym same)
  write_tests false false false due is = absurd (let no_way : None ≡ Some e = is in cc)

  receipt_tests : (a b : Bool) → first_refusal (refused_if a error.Suspended ∷ refused_if b error.BadRange ∷ []) ≡ Some e → (e ≡ error.Suspended) ⊎ (e ≡ error.BadRange)
  receipt_tests true b is = let same : error.Suspended ≡ e = cc in inl (sym same)
  receipt_tests false true is = let same : error.BadRange ≡ e = cc in inr (sym same)
  receipt_tests false false is = absurd (let no_way : None ≡ Some e = is in cc)

module _ (s : Shown) (st : declared_step.Step) (e : PoolError) where
  -- the step is this one, so its tests refuse
  as_step : (t : declared_step.Step) → Some t ≡ Some st → refusal_of_step st s ≡ Some e → refusal_of_step t s ≡ Some e
  as_step t is refused = let same : st ≡ t = cc in subst (λ (x : declared_step.Step). refusal_of_step x s ≡ Some e) same refused

  pub log_refusals : log_step s ≡ Some st → refusal_of_step st s ≡ Some e → (e ≡ error.Suspended) ⊎ (e ≡ error.NoLogSpace)
  log_refusals due refused = go (s.suspended || is_log_pending s) refl due
    where
      flush : (a : Bool) → awaits_flush s.log ≡ a → s.suspended ≡ false → (if a then Some step.LogFlush else None) ≡ Some st → (e ≡ error.Suspended) ⊎ (e ≡ error.NoLogSpace)
      flush true is runs due = absurd (no_test e s.suspended (not (awaits_flush s.log)) runs (ap not is) (as_step step.LogFlush due refused))
      flush false is runs due = absurd (let no_way : None ≡ Some st = due in cc)

      runs_if : (a b : Bool) → (a || b) ≡ false → a ≡ false
      runs_if true b h = h
      runs_if false b h = refl

      go : (b : Bool) → (s.suspended || is_log_pending s) ≡ b → (if b then Some step.LogWrite else if awaits_flush s.log then Some step.LogFlush else None) ≡ Some st → (e ≡ error.Suspended) ⊎ (e ≡ error.NoLogSpace)
      go true is due = write_tests e s.suspended ((length s.log.pending == 0) && is_none s.log.begun) _ is (as_step step.LogWrite due refused)
      go false is due = flush (awaits_flush s.log) refl (runs_if s.suspended _ is) due

  syncing_refusals : (moment : ℕ) → syncing_step moment s ≡ Some st → refusal_of_step st s ≡ Some e → e ≡ error.Suspended
  syncing_refusals moment due refused = go s.suspended (is_some s.line.syncing) refl refl due
    where
      start : (q : Bool) → is_some (quiesced_group s.line) ≡ q → is_some s.line.syncing ≡ false → (if q then Some (step.StartSync moment) else None) ≡ Some st → e ≡ error.Suspended
      start true is free due =
          one_test e s.suspended (is_none (quiesced_group s.line) || is_some s.line.syncing) ((λ i. none-not-some (quiesced_group s.line) i || free i) ∙ ap (λ b. not b || false) is) (as_step (step.StartSync moment) due refused)
      start false is free due = absurd (let no_way : None ≡ Some st = due in cc)

      go : (a b : Bool) → s.suspended ≡ a → is_some s.line.syncing ≡ b → (if a || b then Some step.SyncStep else if is_some (quiesced_group s.line) then Some (step.StartSync moment) else None) ≡ Some st → e ≡ error.Suspended
      go true b runs is due = suspended_first s.suspended (is_none s.line.syncing) runs (as_step step.SyncStep due refused)
        where
          suspended_first : (x y : Bool) → x ≡ true → first_refusal (refused_if x error.Suspended ∷ refused_if y error.NotReady ∷ []) ≡ Some e → e ≡ error.Suspended
          suspended_first true y h is = let same : error.Suspended ≡ e = cc in sym same
          suspended_first false y h is = absurd (false≢true h)
      go false true runs is due = one_test e s.suspended (is_none s.line.syncing) (none-not-some s.line.syncing ∙ ap not is) (as_step step.SyncStep due refused)
      go false false runs is due = start (is_some (quiesced_group s.line)) refl is due

  closing_refusals : s.suspended ≡ false → closing_step s ≡ Some st → refusal_of_step st s ≡ Some e → (e ≡ error.NotReady) × (last_number ≤ s.line.open_group)
  closing_refusals runs due refused = go (is_none s.line.middle) refl due
    where
      only_last : (b : Bool) → is_none s.line.middle ≡ true → (is_some s.line.middle || b) ≡ true → b ≡ true
      only_last b none h = by (is_some s.line.middle) (sym none ∙ none-not-some s.line.middle) h
        where
          by : (x : Bool) → true ≡ not x → (x || b) ≡ true → b ≡ true
          by true none h = absurd (false≢true (sym none))
          by false none h = h

      mark : (q : Bool) → is_quiescent s ≡ q → (if q then Some step.MarkQuiesced else None) ≡ Some st → (e ≡ error.NotReady) × (last_number ≤ s.line.open_group)
      mark true is due = absurd (no_test e s.suspended (not (is_quiescent s)) runs (ap not is) (as_step step.MarkQuiesced due refused))
      mark false is due = absurd (let no_way : None ≡ Some st = due in cc)

      go : (b : Bool) → is_none s.line.middle ≡ b → (if b then Some step.CloseGroup else if is_quiescent s then Some step.MarkQuiesced else None) ≡ Some st → (e ≡ error.NotReady) × (last_number ≤ s.line.open_group)
      go true is due =
          let found = last_test e s.suspended (is_some s.line.middle || nat_le last_number s.line.open_group) runs (as_step step.CloseGroup due refused) in
          (found.0, leb-true last_number s.line.open_group (only_last (nat_le last_number s.line.open_group) is found.1))
      go false is due = mark (is_quiescent s) refl due

  pub refusals_up_to : (group moment : ℕ) → step_up_to group moment s ≡ Some st → refusal_of_step st s ≡ Some e → (e ≡ error.Suspended) ⊎ ((e ≡ error.NotReady) × (last_number ≤ s.line.open_group))
  refusals_up_to group moment due refused = go (nat_le group s.line.synced) due
    where
      runs : syncing_step moment s ≡ None → s.suspended ≡ false
      runs none = by s.suspended refl none
        where
          by : (a : Bool) → s.suspended ≡ a → (if a || is_some s.line.syncing then Some step.SyncStep else if is_some (quiesced_group s.line) then Some (step.StartSync moment) else None) ≡ None → s.suspended ≡ false
          by true is h = absurd (let no_way : Some step.SyncStep ≡ None = h in cc)
          by false is h = is

      to_sync : (o : Option declared_step.Step) → syncing_step moment s ≡ o → (if is_some o then o else closing_step s) ≡ Some st → (e ≡ error.Suspended) ⊎ ((e ≡ error.NotReady) × (last_number ≤ s.line.open_group))
      to_sync (Some t) is due = inl (syncing_refusals moment (is ∙ due) refused)
      to_sync None is due = inr (closing_refusals (runs is) due refused)

      go : (b : Bool) → (if b then None else step_to_sync moment s) ≡ Some st → (e ≡ error.Suspended) ⊎ ((e ≡ error.NotReady) × (last_number ≤ s.line.open_group))
      go true due = absurd (let no_way : None ≡ Some st = due in cc)
      go false due = to_sync (syncing_step moment s) refl due

-- and how a wait for a receipt may be
pub receipt_refusals : (ordinal group : ℕ) (s : Shown) (e : PoolError) → fsync_refusal ordinal group s ≡ Some e → (e ≡ error.Suspended) ⊎ (e ≡ error.BadRange)
receipt_refusals ordinal group s e is = receipt_tests e s.suspended _ is

pub receipt_suspends : (ordinal group : ℕ) (s : Shown) → fsync_refusal ordinal group s ≡ Some error.Suspended → s.suspended ≡ true
receipt_suspends ordinal group s is = by s.suspended _ is
  where
    by : (a b : Bool) → first_refusal (refused_if a error.Suspended ∷ refused_if b error.BadRange ∷ []) ≡ Some error.Suspended → a ≡ true
    by true b is = refl
    by false true is = absurd (let no_way : error.BadRange ≡ error.Suspended = cc in cc)
    by false false is = absurd (let no_way : None ≡ Some error.Suspended = is in cc)
