-- How often a call that waits for at most a time tries, and that the lock which it returns is held.
use Rattle.std.proofs.Common.{◌≡◌, ◌≤◌, ◌+◌, ◌∙◌, ℕ, [], List, ap, arith, length, sym, subst}
use Rattle.std.specs.Prelude.{◌/◌, ◌⊎◌, IfErr, IfOk, Result, Ok, Err, Some, slice_get}
use Rattle.std.proofs.Math.Logic.{∥∥₁_map}
use Rattle.std.proofs.Math.Nat.{div-div-eq-div-mul}
use Rattle.std.proofs.lemmas.List.{length_push}
use Rattle.base.specs.declared.error.PoolError.{PoolError}
use Rattle.base.specs.declared.error.PoolError.TheVariants.{Busy}
use Rattle.base.specs.declared.names.LockId.{LockId}
use Rattle.base.specs.declared.names.ObjectId.{ObjectId}
use Rattle.base.specs.declared.names.Owner.{Owner}
use Rattle.base.specs.declared.range.Mode.{Mode}
use Rattle.base.specs.declared.range.Range.{Range}
use Rattle.base.specs.declared.step.Reply.TheVariants as reply
use Rattle.base.specs.declared.step.Step.TheVariants as step
use Rattle.base.specs.steps.Locks.{Grant}
use Rattle.base.specs.steps.Refusals.{object_range}
use Rattle.base.specs.steps.Runs.{Step, reply_of}
use Rattle.base.specs.steps.Steps.{State, next_grant, state_after_grant}
use Rattle.base.proofs.common.KeptLists.{at_last}
use Rattle.device_model.specs.declared.device.SectorDevice.{Ghosts}
use Rattle.pool_threads.specs.declared.handle.Handle.{Handle}
use Rattle.pool_threads.specs.Answers.{MakesAtLast, TakesOne, state_seen}
use Rattle.pool_threads.specs.Handles.{TakesAtMost, TakesSoMany, tries_within, turns_of}
use Rattle.pool_threads.specs.Views.{SeenPool, viewed_state}
use Rattle.pool_threads.proofs.Released.{done}
use Rattle.word_lock.specs.declared.rule.Turn.{Turn}
use Rattle.word_lock.specs.Seats.{seen}
use Rattle.word_lock.specs.Turns.{turn}

pub each_err : {A E : Type 0} (P : E → Type 0) (r : Result A E) → ((e : E) → P e) → IfErr r P
each_err P (Ok a) each = tt
each_err P (Err e) each = each e

module _ {Dev : Type 0} {G : Ghosts Dev} where
  pub no_turn_yet : (h : Handle Dev G) → TakesSoMany 0 h h
  no_turn_yet h = omega arith

  module _ {P : Turn SeenPool → Type 0} (count : ℕ) (old : Handle Dev G) {now next : Handle Dev G} (had : TakesSoMany count old now) (m : TakesOne P now next) where
    pub one_turn_more : TakesSoMany (count + 1) old next
    one_turn_more =
        let before : length (turns_of now) ≡ length (turns_of old) + count = had in
        let one : length (turns_of next) ≡ length (turns_of now) + 1 = ap (λ (ts : List (Turn SeenPool)). length ts) m.made.turn ∙ length_push (turns_of now) (turn m.made.took (seen next.seat)) in
        omega (arith, before, one)

    module _ (most : ℕ) (low : count ≤ most) where
      pub within : TakesAtMost (most + 1) old next
      within =
          let after : length (turns_of next) ≡ length (turns_of old) + (count + 1) = one_turn_more in
          omega (arith, low, after)

      pub at_the_end : most ≤ count → TakesSoMany (most + 1) old next
      at_the_end high =
          let after : length (turns_of next) ≡ length (turns_of old) + (count + 1) = one_turn_more in
          omega (arith, low, high, after)

  module _ (tries count : ℕ) (same : tries ≡ count) (old new : Handle Dev G) where
    pub most_of : TakesAtMost tries old new → TakesAtMost count old new
    most_of most = subst (λ (n : ℕ). TakesAtMost n old new) same most

    pub patient_of : {A : Type 0} (Own : Type 0) (result : Result A PoolError) → IfErr result (λ e. e ≡ Busy → Own ⊎ TakesSoMany tries old new) → IfErr result (λ e. e ≡ Busy → Own ⊎ TakesSoMany count old new)
    patient_of Own (Ok a) had = tt
    patient_of Own (Err e) had = λ busy. subst (λ (n : ℕ). Own ⊎ TakesSoMany n old new) same (had busy)

  -- the naps that fit in a limit, by its microseconds
  module _ (micros nanos : ℕ) (same : micros ≡ nanos / 1_000) (old new : Handle Dev G) where
    naps_are : micros / 500 + 1 ≡ tries_within nanos
    naps_are = ap (λ (m : ℕ). m / 500 + 1) same ∙ ap (λ (m : ℕ). m + 1) (div-div-eq-div-mul nanos 1_000 500)

    pub limited_by : TakesAtMost (micros / 500 + 1) old new → TakesAtMost (tries_within nanos) old new
    limited_by most = subst (λ (n : ℕ). TakesAtMost n old new) naps_are most

    pub patient_for : {A : Type 0} (Own : Type 0) (result : Result A PoolError) → IfErr result (λ e. e ≡ Busy → Own ⊎ TakesSoMany (micros / 500 + 1) old new) → IfErr result (λ e. e ≡ Busy → Own ⊎ TakesSoMany (tries_within nanos) old new)
    patient_for Own (Ok a) ends = tt
    patient_for Own (Err e) ends = λ busy. subst (λ (n : ℕ). Own ⊎ TakesSoMany n old new) naps_are (ends busy)

-- a lock that was granted is held then
locked_is_held : (now : List ℕ) (owner : Owner) (n : ObjectId) (range : Range) (mode : Mode) (id : LockId) (old new : State) → Step ⊥ now (step.Lock owner n range mode) (reply.Locked id) old new
    → (i : ℕ) × (slice_get new.shown.locks i ≡ Some (record { id = id.0; owner = owner.0; range = object_range n.0 range.low range.high; mode = mode }))
locked_is_held now owner n range mode id old new (answer, is, holds) =
    let d = done _ _ answer old new _ _ (reply.Locked id) (λ e h. let no_way : reply.Locked id ≡ reply.Refused e = h in cc) is holds in
    let g : Grant = next_grant owner.0 (object_range n.0 range.low range.high) mode old.shown in
    let after : new ≡ state_after_grant g old = d.3.1 in
    let named : id ≡ record { 0 = d.0 } = (let same : reply.Locked id ≡ reply.Locked (record { 0 = d.0 }) = d.2 in cc) in
    let number : id.0 ≡ old.shown.next_lock = ap (λ (i : LockId). i.0) named ∙ d.3.0 in (
      length old.shown.locks,
      ap (λ (s : State). slice_get s.shown.locks (length old.shown.locks)) after ∙ at_last old.shown.locks g
          ∙ ap (λ (k : ℕ). Some (record { id = k; owner = owner.0; range = object_range n.0 range.low range.high; mode = mode })) (sym number),
    )

module _ {Dev : Type 0} {G : Ghosts Dev} (owner : Owner) (n : ObjectId) (range : Range) (mode : Mode) (e : PoolError) (old new : Handle Dev G) where
  -- so a lock that a call returns is held after its last turn
  pub lock_is_held : (result : Result LockId PoolError) → MakesAtLast (step.Lock owner n range mode) e (reply_of (λ id. reply.Locked id) result) old new
      → IfOk result (λ id. ∥ ((i : ℕ) × (slice_get (state_seen new).shown.locks i ≡ Some (record { id = id.0; owner = owner.0; range = object_range n.0 range.low range.high; mode = mode }))) ∥₁)
  lock_is_held (Ok id) m = ∥∥₁_map m.made.made.step (locked_is_held [] owner n range mode id (viewed_state m.made.took) (state_seen new))
  lock_is_held (Err f) m = tt
