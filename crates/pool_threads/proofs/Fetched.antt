-- A reader lock that was granted, a read under it and its unlock leave all that is shown of a pool as it was.
use Rattle.std.proofs.Common.{◌≡◌, ℕ, ◌+◌, ◌<◌, Bool, true, false, not, ◌&&◌, List, [], ◌∷◌, ◌++◌, length, append-nil, drop, refl, ap, sym, subst, ◌∙◌, arith}
use Rattle.std.specs.Prelude.{Option, Some, None, Result, Ok, Err, cond, filter, find, is_none, slice_get, ◌==◌}
use Rattle.std.specs.Option.{option_map_or, option_or}
use Rattle.std.proofs.lemmas.Bool.{and_from, eq-eqb, ne_eqb}
use Rattle.std.proofs.lemmas.List.Elements.{filter-append}
use Rattle.std.proofs.lemmas.List.Folds.{find-append}
use Rattle.std.proofs.lemmas.Option.{slice_get_within}
use Rattle.base.specs.declared.error.PoolError.{PoolError}
use Rattle.base.specs.declared.error.PoolError.TheVariants as error
use Rattle.base.specs.declared.names.LockId.{LockId}
use Rattle.base.specs.declared.names.ObjectId.{ObjectId}
use Rattle.base.specs.declared.names.Owner.{Owner}
use Rattle.base.specs.declared.range.Mode.TheVariants.{Reader}
use Rattle.base.specs.declared.range.Range.{Range}
use Rattle.base.specs.declared.step.Step.TheVariants as step
use Rattle.base.specs.declared.step.Reply as declared_reply
use Rattle.base.specs.declared.step.Reply.TheVariants as reply
use Rattle.base.specs.steps.Tables.{AreTablesExplained}
use Rattle.base.specs.steps.Locks.{Grant}
use Rattle.base.specs.steps.Refusals.{is_lock_in_use, lock_of, lock_tests, object_range, unlock_refusal}
use Rattle.base.specs.steps.Runs.{Step, reply_of}
use Rattle.base.specs.steps.Steps.{Answers, State, next_grant, state_after_grant, state_after_unlock}
use Rattle.base.proofs.common.KeptLists.{All-each, find_none}
use Rattle.base.proofs.common.Sieves.{filter_all}
use Rattle.base.proofs.steps.KeptLocks.{held_is}
use Rattle.pool_threads.specs.Fetches.{ShowsSame, reader_step}
use Rattle.pool_threads.proofs.Released.{done, passed, passes_three, runs_on}

-- a step that leaves all as it is, whether it is refused or not
leaves : {A : Type 0} (o : Option PoolError) (answer : Result A PoolError) (old new : State) (does : A → Type 0) (own : PoolError → Type 0) → ((a : A) → does a → new ≡ old) → ((e : PoolError) → own e → new ≡ old)
    → Answers o answer old new does own → new ≡ old
leaves (Some f) answer old new does own made refused holds = holds.1
leaves None (Ok a) old new does own made refused holds = made a holds
leaves None (Err e) old new does own made refused holds = refused e holds

read_leaves : (now : List ℕ) (owner : Owner) (n : ObjectId) (range : Range) (r : declared_reply.Reply) (old new : State) → Step ⊥ now (step.Read owner n range) r old new → new ≡ old
read_leaves now owner n range r old new (answer, is, holds) = leaves _ answer old new _ _ (λ bytes does. does.1) (λ e own. own.1) holds

module _ (now : List ℕ) (owner : Owner) (n : ObjectId) (range : Range) (id : LockId) (b m : State) (x : AreTablesExplained b.shown b.past) (locks : Step ⊥ now (reader_step owner n range) (reply.Locked id) b m) where
  abbrev granted : Grant
  granted = next_grant owner.0 (object_range n.0 range.low range.high) Reader b.shown

  locked : (b.shown.next_lock ≡ id.0) × (m ≡ state_after_grant granted b) × (b.shown.suspended ≡ false)
  locked =
      let d = done _ _ locks.0 b m _ _ (reply.Locked id) (λ e h. let no_way : reply.Locked id ≡ reply.Refused e = h in cc) locks.1 locks.2 in
      let named : id ≡ record { 0 = d.0 } = (let same : reply.Locked id ≡ reply.Locked (record { 0 = d.0 }) = d.2 in cc) in
      let is : id.0 ≡ b.shown.next_lock = ap (λ (i : LockId). i.0) named ∙ d.3.0 in
      (sym is, d.3.1, runs_on b.shown.suspended (drop 1 (lock_tests owner.0 (object_range n.0 range.low range.high) Reader b.shown)) d.1)

  -- no lock that was held before has its name
  new_name : (i : ℕ) (h : Grant) → slice_get b.shown.locks i ≡ Some h → (h.id == id.0) ≡ false
  new_name i h at = ne_eqb h.id id.0 (λ same.
      let below : h.id < length b.past.grants = slice_get_within b.past.grants h.id h (held_is b.shown b.past x.exact.locks i h at) in
      let next : b.shown.next_lock ≡ length b.past.grants = x.exact.locks.next in
      let named : b.shown.next_lock ≡ id.0 = locked.0 in
      absurd (omega arith))

  abbrev is_it : Grant → Bool
  is_it h = (h.id == id.0) && (h.owner == owner.0)

  found : lock_of owner.0 id.0 m.shown ≡ Some granted
  found =
      ap (λ (s : State). lock_of owner.0 id.0 s.shown) locked.1
      ∙ find-append is_it b.shown.locks (granted ∷ [])
      ∙ ap (λ (o : Option Grant). option_or o (find is_it (granted ∷ []))) (find_none is_it b.shown.locks (λ i h at. ap (λ (c : Bool). c && (h.owner == owner.0)) (new_name i h at)))
      ∙ ap (λ (c : Bool). option_or None (cond c (Some granted) None)) (and_from (granted.id == id.0) (granted.owner == owner.0) (eq-eqb granted.id id.0 locked.0) (eq-eqb granted.owner owner.0 refl))

  may_unlock : unlock_refusal owner.0 id.0 m.shown ≡ None
  may_unlock =
      passes_three m.shown.suspended (is_none (lock_of owner.0 id.0 m.shown)) (option_map_or (λ h. is_lock_in_use h m.shown) (lock_of owner.0 id.0 m.shown) false) error.Suspended error.NoSuchLock error.LockInUse
      (ap (λ (s : State). s.shown.suspended) locked.1 ∙ locked.2)
      (ap (λ (o : Option Grant). is_none o) found)
      (ap (λ (o : Option Grant). option_map_or (λ h. is_lock_in_use h m.shown) o false) found)

  abbrev is_kept : Grant → Bool
  is_kept h = not (h.id == id.0)

  same_locks : filter is_kept (b.shown.locks ++ granted ∷ []) ≡ b.shown.locks
  same_locks =
      filter-append is_kept b.shown.locks (granted ∷ [])
      ∙ ap (λ (ls : List Grant). ls ++ filter is_kept (granted ∷ [])) (filter_all is_kept b.shown.locks (All-each (λ (h : Grant). is_kept h ≡ true) b.shown.locks (λ i h at. ap not (new_name i h at))))
      ∙ ap (λ (c : Bool). b.shown.locks ++ cond (not c) (granted ∷ []) []) (eq-eqb granted.id id.0 locked.0)
      ∙ append-nil b.shown.locks

  unlocked : (s : State) → s ≡ state_after_unlock id.0 m → ShowsSame b s
  unlocked s is =
      subst (λ (t : State). ShowsSame b t) (sym (is ∙ ap (λ (t : State). state_after_unlock id.0 t) locked.1))
      (ap (λ (ls : List Grant). record b.shown { locks = ls; next_lock = b.shown.next_lock + 1 }) same_locks)

  pub shows_same : (r : declared_reply.Reply) (answer : Result (Unit {0}) PoolError) (s t : State) → Step ⊥ now (step.Read owner n range) r m s → Step ⊥ now (step.Unlock owner id) (reply_of (λ _. reply.Done) answer) s t → ShowsSame b t
  shows_same r answer s t reads unlocks =
      let same : s ≡ m = read_leaves now owner n range r m s reads in
      let passes : unlock_refusal owner.0 id.0 s.shown ≡ None = ap (λ (u : State). unlock_refusal owner.0 id.0 u.shown) same ∙ may_unlock in
      let d = passed (unlock_refusal owner.0 id.0 s.shown) unlocks.0 s t _ passes unlocks.2 in
      unlocked t (d.1 ∙ ap (λ (u : State). state_after_unlock id.0 u) same)
