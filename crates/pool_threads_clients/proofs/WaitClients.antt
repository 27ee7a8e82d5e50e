-- What callers take from the turns of a wait and of a sync of the pool.
use Rattle.std.proofs.Common.{◌≡◌, ◌≢◌, ◌++◌, ◌∷◌, ℕ, [], List, append_assoc, inl, inr, refl, sym, ap, subst, ◌∙◌}
use Rattle.std.specs.Prelude.{◌⊎◌, All, Bool, IfOk, IsTrue, None, Ok, Err, Option, Result, Some, false, true}
use Rattle.std.proofs.lemmas.Bool.{false≢true}
use Rattle.std.proofs.lemmas.List.{append-nil}
use Rattle.std.proofs.lemmas.List.Elements.{All-weaker}
use Rattle.base.specs.declared.error.PoolError.{PoolError}
use Rattle.base.specs.declared.names.Group.{Group}
use Rattle.base.specs.declared.names.Receipt.{Receipt}
use Rattle.base.specs.declared.step.Reply as declared_reply
use Rattle.base.specs.declared.step.Reply.TheVariants as reply
use Rattle.base.specs.steps.Shown.{is_durable}
use Rattle.base.specs.steps.SyncEnds.{IsAnswer, is_refusal}
use Rattle.device_model.specs.declared.device.SectorDevice.{Ghosts}
use Rattle.pool_tables.specs.declared.duty.Duty.{Duty}
use Rattle.pool_tables.specs.declared.duty.Duty.TheVariants as duty
use Rattle.pool_threads.specs.declared.handle.Handle.{Handle}
use Rattle.pool_threads.specs.Answers.{Takes, TakesOne}
use Rattle.pool_threads.specs.Handles.{moment_of, turns_of, view_seen}
use Rattle.pool_threads.specs.Serves.{AreDue, IsServedTurn}
use Rattle.pool_threads.specs.Views.{GrowsTo, SeenPool, grows_same, viewed_state}
use Rattle.pool_threads.specs.Waits.{EndsAfter, EndsSyncing, LooksAt, SyncsInstead, SyncsPool, SyncsUpTo, Waits, WaitsForFlush, WaitsOnce, WaitsUntil, last_found, result_of}
use Rattle.pool_threads.proofs.Looked.{looked_one}
use Rattle.pool_threads.proofs.Served.{grows_by_due}
use Rattle.pool_threads.proofs.Waited.{LeadsOn, LooksOrServes, TakesAnyAtLast, all_alike, ends_as, ends_on, flush_wait, more_leads_on, served_as, sync_turns, takes_as, takes_on, whole_wait}
use Rattle.pool_threads.proofs.WaitsSeen.{not_found}
use Rattle.pool_threads.proofs.Tried.{no_turns, one_more_turn}
use Rattle.word_lock.specs.declared.rule.Turn.{Turn}
use Rattle.word_lock.specs.Turns.{turn}

-- in this turn nothing changed, or steps were made that were due, and no reply but the last is a refusal
abbrev pub EndsWithRefusal : Type 0 → Turn SeenPool → Type 0
EndsWithRefusal keeps t = (t.left ≡ t.took)
    ⊎ ((d : Duty) × (rs : List declared_reply.Reply) × (last : declared_reply.Reply) × All (λ r. (e : PoolError) → r ≢ reply.Refused e) rs × AreDue keeps d (rs ++ last ∷ []) t.took t.left)

no_refusal : (r : declared_reply.Reply) → IsAnswer r → (e : PoolError) → r ≢ reply.Refused e
no_refusal r answered e is = false≢true (sym answered ∙ ap is_refusal is)

ends_with_refusal : (keeps : Type 0) (t : Turn SeenPool) → LeadsOn keeps t → EndsWithRefusal keeps t
ends_with_refusal keeps t leads = by leads.1
  where
    served : (d : Duty) (r : Option declared_reply.Reply) → IsServedTurn keeps d r t → EndsWithRefusal keeps t
    served d None made = inl made.1
    served d (Some r) made = inr (d, made.0, r, All-weaker IsAnswer (λ (x : declared_reply.Reply). (e : PoolError) → x ≢ reply.Refused e) no_refusal made.0 made.1, made.2)

    by : LooksOrServes keeps t → EndsWithRefusal keeps t
    by (inl same) = inl same
    by (inr (d, r, made)) = served d r made

-- in this turn nothing changed, or steps were made that were due for a sync up to the group
abbrev pub IsTurnOfSync : Type 0 → ℕ → Group → Turn SeenPool → Type 0
IsTurnOfSync keeps moment group t = (t.left ≡ t.took) ⊎ ((r : Option declared_reply.Reply) × IsServedTurn keeps (duty.SyncUpTo group moment) r t)

turn_of_sync : (keeps : Type 0) (moment : ℕ) (group : Group) (r : Option declared_reply.Reply) (t : Turn SeenPool) → IsServedTurn keeps (duty.SyncUpTo group moment) r t
    → IsTurnOfSync keeps moment group t × GrowsTo keeps t.took t.left
turn_of_sync keeps moment group r t made = (inr (r, made), grows_by_due keeps (duty.SyncUpTo group moment) r t.took t.left made)

module _ {Dev : Type 0} {G : Ghosts Dev} where
  each_ends : {old new : Handle Dev G} → TakesAnyAtLast old new → Takes (EndsWithRefusal (IsTrue G.keeps_model)) old new
  each_ends u = takes_as (ends_with_refusal (IsTrue G.keeps_model)) (all_alike (λ t leads. (leads, leads.0)) u)

  pub wait_ends : (receipt : Receipt) (result : Result (Unit {0}) PoolError) {old new : Handle Dev G} → WaitsUntil receipt result old new → Takes (EndsWithRefusal (IsTrue G.keeps_model)) old new
  wait_ends receipt result w = each_ends (whole_wait receipt result w)

  pub sync_ends : (answer : Result Group PoolError) {old new : Handle Dev G} → SyncsPool answer old new → Takes (EndsWithRefusal (IsTrue G.keeps_model)) old new
  sync_ends answer {old} {new} p =
      let look = looked_one {P = LeadsOn (IsTrue G.keeps_model)} p.looks (grows_same (IsTrue G.keeps_model) (view_seen p.looked), inl refl) in
      each_ends (ends_on (more_leads_on (no_turns _ old) look) (sync_turns p.group p.result p.syncs))

  turns_of_sync : (group : Group) (result : Result (Unit {0}) PoolError) {old new : Handle Dev G} → SyncsUpTo group result old new → Takes (IsTurnOfSync (IsTrue G.keeps_model) (moment_of old) group) old new
  turns_of_sync group result {old} {new} u = all_alike (λ t x. x) (ends_as (λ t made. (turn_of_sync (IsTrue G.keeps_model) (moment_of old) group made.0 t made.2).0) (by result) u)
    where
      by : (x : Result (Unit {0}) PoolError) (t : Turn SeenPool) → EndsSyncing (IsTrue G.keeps_model) (moment_of old) group x t → IsTurnOfSync (IsTrue G.keeps_model) (moment_of old) group t × GrowsTo (IsTrue G.keeps_model) t.took t.left
      by (Ok done) t made = turn_of_sync (IsTrue G.keeps_model) (moment_of old) group made.0.0 t made.0.2
      by (Err e) t made = turn_of_sync (IsTrue G.keeps_model) (moment_of old) group (Some (reply.Refused e)) t made

  pub syncs_alone : (answer : Result Group PoolError) {old new : Handle Dev G} → SyncsPool answer old new
      → (group : Group) × IfOk answer (λ g. g ≡ group) × Takes (IsTurnOfSync (IsTrue G.keeps_model) (moment_of old) group) old new
  syncs_alone answer {old} {new} p = (p.group, subst (λ (r : Result Group PoolError). IfOk r (λ g. g ≡ p.group)) (sym p.answered) (same p.result), takes_on look rest)
    where
      same : (result : Result (Unit {0}) PoolError) → IfOk (result_of p.group result) (λ g. g ≡ p.group)
      same (Ok done) = refl
      same (Err e) = tt

      first : TakesOne (λ t. IsTurnOfSync (IsTrue G.keeps_model) (moment_of old) p.group t × GrowsTo (IsTrue G.keeps_model) t.took t.left) old p.looked
      first = looked_one {P = λ t. IsTurnOfSync (IsTrue G.keeps_model) (moment_of old) p.group t × GrowsTo (IsTrue G.keeps_model) t.took t.left} p.looks
          (inl refl, grows_same (IsTrue G.keeps_model) (view_seen p.looked))

      look : Takes (IsTurnOfSync (IsTrue G.keeps_model) (moment_of old) p.group) old p.looked
      look = one_more_turn _ (no_turns _ old) (served_as (λ t x. x.0) first) first.made.made.1

      rest : Takes (IsTurnOfSync (IsTrue G.keeps_model) (moment_of old) p.group) p.looked new
      rest = subst (λ (m : ℕ). Takes (IsTurnOfSync (IsTrue G.keeps_model) m p.group) p.looked new) p.looks.same_pool.1 (turns_of_sync p.group p.result p.syncs)

  -- a wait that looks first, and makes no step if it finds the transaction durable
  module _ (receipt : Receipt) where
    abbrev LooksFirst : Result (Unit {0}) PoolError → Handle Dev G → Handle Dev G → Type 0
    LooksFirst result old new = (looked : SeenPool) × (rest : List (Turn SeenPool)) × GrowsTo (IsTrue G.keeps_model) (view_seen old) looked × (turns_of new ≡ (turns_of old ++ turn looked looked ∷ []) ++ rest)
        × (is_durable (viewed_state looked).shown receipt.ordinal.0 receipt.group.0 ≡ true → (rest ≡ []) × (result ≡ Ok tt))

    module _ (found : Result Bool PoolError) (result : Result (Unit {0}) PoolError) (old looked new : Handle Dev G) (l : LooksAt receipt found old looked) where
      abbrev FoundDurable : Type 0
      FoundDurable = is_durable (viewed_state l.made.took).shown receipt.ordinal.0 receipt.group.0 ≡ true

      first_turn : turns_of looked ≡ turns_of old ++ turn l.made.took l.made.took ∷ []
      first_turn = l.made.turn ∙ ap (λ (v : SeenPool). turns_of old ++ turn l.made.took v ∷ []) l.made.made.0

      -- nothing comes after it
      looks_only : new ≡ looked → (FoundDurable → result ≡ Ok tt) → LooksFirst result old new
      looks_only same durable = (
        l.made.took,
        [],
        l.made.onward,
        ap (λ (h : Handle Dev G). turns_of h) same ∙ first_turn ∙ sym (append-nil (turns_of old ++ turn l.made.took l.made.took ∷ [])),
        λ is. (refl, durable is),
      )

      -- more turns do, since it was not durable
      looks_and_more : TakesAnyAtLast looked new → (FoundDurable → ⊥) → LooksFirst result old new
      looks_and_more u not_durable =
          let rest : List (Turn SeenPool) = u.made.had ++ turn u.made.took (view_seen new) ∷ [] in
          let never : FoundDurable → (rest ≡ []) × (result ≡ Ok tt) = λ is. absurd (not_durable is) in (
            l.made.took,
            rest,
            l.made.onward,
            u.made.turn ∙ append_assoc (turns_of looked) u.made.had (turn u.made.took (view_seen new) ∷ []) ∙ ap (λ (ts : List (Turn SeenPool)). ts ++ rest) first_turn,
            never,
          )

      shown_there : (b : Bool) → is_durable (viewed_state (view_seen looked)).shown receipt.ordinal.0 receipt.group.0 ≡ b → b ≡ false → FoundDurable → ⊥
      shown_there b is not_so there =
          false≢true (sym not_so ∙ sym is ∙ ap (λ (v : SeenPool). is_durable (viewed_state v).shown receipt.ordinal.0 receipt.group.0) l.made.made.0 ∙ there)

    ends_first : (found : Result Bool PoolError) (result : Result (Unit {0}) PoolError) (old looked new : Handle Dev G) → LooksAt receipt found old looked → EndsAfter receipt found result looked new → LooksFirst result old new
    ends_first (Ok true) result old looked new l ends = looks_only (Ok true) result old looked new l ends.1 (λ _. ends.0)
    ends_first (Ok false) result old looked new l ends =
        looks_and_more (Ok false) result old looked new l (flush_wait receipt result ends) (shown_there (Ok false) result old looked new l false (sym l.made.made.1.checked.0) refl)
    ends_first (Err e) result old looked new l ends =
        looks_only (Err e) result old looked new l ends.1 (λ is. absurd (shown_there (Err e) result old looked new l false l.made.made.1.checked.0 refl is))

    pub looks_first : (result : Result (Unit {0}) PoolError) (old new : Handle Dev G) → WaitsUntil receipt result old new → LooksFirst result old new
    looks_first result old new w = ends_first w.found result old w.looked new w.looks w.ends

    -- a wait for a flush has no turn after a first one that leaves the transaction durable
    abbrev pub EndsAtOnce : Handle Dev G → Handle Dev G → Type 0
    EndsAtOnce old new = (took : SeenPool) × (left : SeenPool) × (rest : List (Turn SeenPool)) × (turns_of new ≡ (turns_of old ++ turn took left ∷ []) ++ rest)
        × (is_durable (viewed_state left).shown receipt.ordinal.0 receipt.group.0 ≡ true → rest ≡ [])

    -- one turn alone
    once_only : {P : Turn SeenPool → Type 0} (old new : Handle Dev G) → TakesOne P old new → EndsAtOnce old new
    once_only old new m = (m.made.took, view_seen new, [], m.made.turn ∙ sym (append-nil (turns_of old ++ turn m.made.took (view_seen new) ∷ [])), λ is. refl)

    -- one that didn't leave it durable, and more
    once_and_more : {P : Turn SeenPool → Type 0} (old now new : Handle Dev G) → TakesOne P old now → is_durable (viewed_state (view_seen now)).shown receipt.ordinal.0 receipt.group.0 ≡ false → TakesAnyAtLast now new → EndsAtOnce old new
    once_and_more old now new m none u =
        let rest : List (Turn SeenPool) = u.made.had ++ turn u.made.took (view_seen new) ∷ [] in (
          m.made.took,
          view_seen now,
          rest,
          u.made.turn ∙ append_assoc (turns_of now) u.made.had (turn u.made.took (view_seen new) ∷ []) ∙ ap (λ (ts : List (Turn SeenPool)). ts ++ rest) m.made.turn,
          λ is. absurd (false≢true (sym none ∙ is)),
        )

    synced_and_more : (result : Result (Unit {0}) PoolError) (old new : Handle Dev G) → SyncsInstead receipt result old new → EndsAtOnce old new
    synced_and_more result old new s =
        once_and_more old s.full new s.refused (not_found receipt s.refused.made.made.0 (turn s.refused.made.took (view_seen s.full)) s.refused.made.made.2.1 s.refused.made.made.1) (sync_turns receipt.group result s.syncs)

    round_at_once : (found : Result Bool PoolError) (old new : Handle Dev G) → WaitsOnce receipt found old new → EndsAtOnce old new
    round_at_once found old new (inl look) = once_only old new look
    round_at_once (Ok true) old new (inr (inl (r, m))) = once_only old new m
    round_at_once (Ok true) old new (inr (inr s)) = synced_and_more (Ok tt) old new s
    round_at_once (Ok false) old new (inr (r, passed, m)) = once_only old new m
    round_at_once (Err e) old new (inr (inl (r, passed, m))) = once_only old new m
    round_at_once (Err e) old new (inr (inr (inl (other, m)))) = once_only old new m
    round_at_once (Err e) old new (inr (inr (inr s))) = synced_and_more (Err e) old new s

    -- a round that finds it not durable is one turn
    round_and_more : (old now new : Handle Dev G) → WaitsOnce receipt (Ok false) old now → TakesAnyAtLast now new → EndsAtOnce old new
    round_and_more old now new (inl look) u = once_and_more old now new look (sym look.made.made.1.checked.0) u
    round_and_more old now new (inr (r, passed, m)) u = once_and_more old now new m (sym m.made.made.1.checked.0) u

    pub ends_at_once : (result : Result (Unit {0}) PoolError) (old new : Handle Dev G) → WaitsForFlush receipt result old new → EndsAtOnce old new
    ends_at_once result old new w = by w.rounds w.waits
      where
        by : (rounds : List (Handle Dev G)) → Waits receipt rounds old w.last → EndsAtOnce old new
        by [] same = subst (λ (h : Handle Dev G). EndsAtOnce h new) same (round_at_once (last_found result) w.last new w.ends)
        by (h ∷ hs) (first, rest) =
            let later : WaitsForFlush receipt result h new = record { rounds = hs; last = w.last; waits = rest; ends = w.ends } in
            round_and_more old h new first (flush_wait receipt result later)
