-- What a wait for a receipt, and a sync up to a group, say to their handle.
use Rattle.std.proofs.Common.{◌≡◌, ◌≢◌, ◌⊎◌, ◌≤◌, ◌||◌, ℕ, [], Bool, true, false, inl, inr, refl, ap, sym, subst, ◌∙◌}
use Rattle.std.specs.Prelude.{IfErr, IfOk, IsTrue, None, Ok, Err, Result, Some, if◌then◌else◌, nat_le}
use Rattle.std.proofs.Math.Logic.{∥∥₁_elim, ∥∥₁_map, ∥∥₁_prop}
use mathlib.Core.Bool.{Bool-set}
use Rattle.std.proofs.lemmas.Bool.{false≢true, le-leb, leb-true}
use Rattle.base.specs.declared.error.PoolError.{PoolError}
use Rattle.base.specs.declared.error.PoolError.TheVariants as error
use Rattle.base.specs.declared.names.Group.{Group}
use Rattle.base.specs.declared.names.Receipt.{Receipt}
use Rattle.base.specs.declared.step.Step as declared_step
use Rattle.base.specs.declared.step.Reply.TheVariants as reply
use Rattle.base.specs.formats.Limits.{last_number}
use Rattle.base.specs.steps.Tables.{GoesOn, AreTablesExplained}
use Rattle.base.specs.steps.Logs.{is_flushed_in}
use Rattle.base.specs.steps.Refusals.{fsync_refusal}
use Rattle.base.specs.steps.Runs.{refusal_of_step}
use Rattle.base.specs.steps.Seen.{IsKnownDurable, IsRefusedBetween}
use Rattle.base.specs.steps.SeenLaws.{is_untested}
use Rattle.base.specs.steps.Shown.{is_durable}
use Rattle.base.specs.steps.Steps.{State}
use Rattle.base.proofs.steps.KeptTables.{runs_keep_tables}
use Rattle.base.proofs.steps.SeenGroups.{durable_is_known}
use Rattle.base.proofs.steps.StepEffects.{Answered, step_does}
use Rattle.base.proofs.steps.StepEffects.Answered.{tested, untested, made}
use Rattle.device_model.specs.declared.device.SectorDevice.{Ghosts}
use Rattle.pool_core.specs.StepReplies.{IsStep}
use Rattle.pool_tables.specs.declared.duty.Duty.{Duty}
use Rattle.pool_tables.specs.declared.duty.Duty.TheVariants as duty
use Rattle.pool_tables.specs.Receipts.{ChecksReceipt}
use Rattle.pool_tables.proofs.DueSteps.{log_refusals, receipt_refusals, receipt_suspends, refusals_up_to}
use Rattle.pool_threads.specs.declared.handle.Handle.{Handle}
use Rattle.pool_threads.specs.Answers.{Sees, state_seen}
use Rattle.pool_threads.specs.Handles.{HasLooked, moment_of}
use Rattle.pool_threads.specs.Serves.{IsRefusedTurn, MakesDue}
use Rattle.pool_threads.specs.Views.{GrowsTo, SeenPool, grows_onward, grows_same, viewed_state}
use Rattle.pool_threads.specs.Waits.{FindsReceipt, IsRefusedAfter, IsRefusedLog, IsSyncingRefusal, IsWaitingRefusal, LeavesDurable, SyncsInstead, SyncsPool, SyncsUpTo, WaitsForFlush, WaitsOnce, WaitsUntil, result_of, wait_refusal}
use Rattle.pool_threads.proofs.Along.{one_grows}
use Rattle.pool_threads.proofs.Served.{LastDue, grows_by_due, last_made, refused_due, refused_last}
use Rattle.pool_threads.proofs.Waited.{TakesAny, TakesAnyAtLast, as_flush_wait, flush_wait, sync_turns, wait_turns}
use Rattle.word_lock.specs.declared.rule.Turn.{Turn}
use Rattle.word_lock.specs.Seats.{seen}
use Rattle.word_lock.specs.Turns.{turn}

-- a refusal of a step that its tests see is the first of them, and all stands
pub tested-there : (s : declared_step.Step) (e : PoolError) (a b : State) → IsStep s (reply.Refused e) a b → is_untested e ≡ false → (refusal_of_step s a.shown ≡ Some e) × (b ≡ a)
tested-there s e a b h seen_by = by (step_does ⊥ [] s (reply.Refused e) a b h).answer
  where
    same : (f : PoolError) → reply.Refused e ≡ reply.Refused f → e ≡ f
    same f is = cc

    by : Answered s (reply.Refused e) a b → (refusal_of_step s a.shown ≡ Some e) × (b ≡ a)
    by (tested f is found stays) = (found ∙ ap (λ (x : PoolError). Some x) (sym (same f is)), stays)
    by (untested f is own loud none) = absurd (false≢true (sym seen_by ∙ ap is_untested (same f is) ∙ own))
    by (made answers none) = absurd (false≢true (sym answers))

-- a pool that refuses the close of its last group
abbrev is_at_last : State → Bool
is_at_last a = nat_le last_number a.shown.line.open_group

module _ (keeps : Type 0) (u w : SeenPool) where
  module _ (d : Duty) (e : PoolError) (seen_by : is_untested e ≡ false) (does : MakesDue keeps d (Some (reply.Refused e)) u w) where
    last : LastDue keeps d (reply.Refused e) u w
    last = last_made keeps d (reply.Refused e) u w does

    there : ∥ (refusal_of_step last.step (viewed_state last.at).shown ≡ Some e) × (viewed_state w ≡ viewed_state last.at) ∥₁
    there = ∥∥₁_map last.made.step (λ h. tested-there last.step e (viewed_state last.at) (viewed_state w) h seen_by)

  -- the log is refused as not ready never
  log_is_ready : (e : PoolError) → e ≡ error.NotReady → MakesDue keeps duty.CommitLog (Some (reply.Refused e)) u w → ⊥
  log_is_ready e is does = ∥∥₁_elim (there duty.CommitLog e (ap is_untested is) does) ⊥_prop (λ h. by (log_refusals _ _ e (last duty.CommitLog e (ap is_untested is) does).due h.0))
    where
      ⊥_prop : (x y : ⊥) → x ≡ y
      ⊥_prop x y = absurd x

      by : (e ≡ error.Suspended) ⊎ (e ≡ error.NoLogSpace) → ⊥
      by (inl other) = let no_way : error.NotReady ≡ error.Suspended = sym is ∙ other in cc
      by (inr other) = let no_way : error.NotReady ≡ error.NoLogSpace = sym is ∙ other in cc

  -- a sync up to a group is refused so at the last group alone, and for space never, of the log or of the pool
  module _ (group : Group) (moment : ℕ) (e : PoolError) (does : MakesDue keeps (duty.SyncUpTo group moment) (Some (reply.Refused e)) u w) where
    syncs_to_last : e ≡ error.NotReady → is_at_last (viewed_state w) ≡ true
    syncs_to_last is = ∥∥₁_elim (there d e seen_by does) (Bool-set _ _) (λ h. ap is_at_last h.1 ∙ by (refusals_up_to _ _ e group.0 moment (last d e seen_by does).due h.0))
      where
        d : Duty
        d = duty.SyncUpTo group moment

        seen_by : is_untested e ≡ false
        seen_by = ap is_untested is

        by : (e ≡ error.Suspended) ⊎ ((e ≡ error.NotReady) × (last_number ≤ (viewed_state (last d e seen_by does).at).shown.line.open_group)) → is_at_last (viewed_state (last d e seen_by does).at) ≡ true
        by (inl other) = absurd (let no_way : error.NotReady ≡ error.Suspended = sym is ∙ other in cc)
        by (inr found) = le-leb last_number _ found.1

    -- by its tests alone as suspended or as not ready
    syncs_without : (f : PoolError) → is_untested f ≡ false → (f ≡ error.Suspended → ⊥) → (f ≡ error.NotReady → ⊥) → e ≡ f → ⊥
    syncs_without f own not_suspended not_unready is = ∥∥₁_elim (there d e seen_by does) ⊥_prop (λ h. by (refusals_up_to _ _ e group.0 moment (last d e seen_by does).due h.0))
      where
        d : Duty
        d = duty.SyncUpTo group moment

        seen_by : is_untested e ≡ false
        seen_by = ap is_untested is ∙ own

        ⊥_prop : (x y : ⊥) → x ≡ y
        ⊥_prop x y = absurd x

        by : (e ≡ error.Suspended) ⊎ ((e ≡ error.NotReady) × (last_number ≤ (viewed_state (last d e seen_by does).at).shown.line.open_group)) → ⊥
        by (inl other) = not_suspended (sym is ∙ other)
        by (inr found) = not_unready (sym is ∙ found.0)

    pub syncs_without_log : e ≡ error.NoLogSpace → ⊥
    syncs_without_log is = syncs_without error.NoLogSpace refl (λ other. let no_way : error.NoLogSpace ≡ error.Suspended = other in cc) (λ other. let no_way : error.NoLogSpace ≡ error.NotReady = other in cc) is

    pub syncs_without_space : e ≡ error.NoSpace → ⊥
    syncs_without_space is = syncs_without error.NoSpace refl (λ other. let no_way : error.NoSpace ≡ error.Suspended = other in cc) (λ other. let no_way : error.NoSpace ≡ error.NotReady = other in cc) is

-- what is known to be durable is shown so
known-shown : (ordinal group : ℕ) (s : State) → AreTablesExplained s.shown s.past → IsKnownDurable ordinal group s → is_durable s.shown ordinal group ≡ true
known-shown ordinal group s x (inl low) = ap (λ (b : Bool). b || is_flushed_in s.shown.log (record { ordinal = ordinal; group = group })) (le-leb group s.shown.line.synced low)
known-shown ordinal group s x (inr (e, at, of_group, is)) = ap (λ (g : ℕ). is_durable s.shown ordinal g) (sym of_group) ∙ sym (x.exact.log.acknowledged ordinal e at) ∙ is

-- a wait for what a pool shows as durable is not refused from then on
never_refused : (moment : ℕ) (receipt : Receipt) (e : PoolError) (s after : State) → AreTablesExplained s.shown s.past → is_durable s.shown receipt.ordinal.0 receipt.group.0 ≡ true → IsWaitingRefusal moment receipt e s after → ⊥
never_refused moment receipt e s after x is r =
    let shown : is_durable r.looked.shown receipt.ordinal.0 receipt.group.0 ≡ true = known-shown receipt.ordinal.0 receipt.group.0 r.looked r.explained (durable_is_known receipt.ordinal.0 receipt.group.0 s r.looked x is r.no_earlier) in
    false≢true (sym r.not_durable ∙ shown)

-- what a wait finds durable, or not
module _ (receipt : Receipt) (found : Result Bool PoolError) (t : Turn SeenPool) (f : FindsReceipt receipt found t) where
  pub not_found : (found ≡ Ok true → ⊥) → is_durable (viewed_state t.left).shown receipt.ordinal.0 receipt.group.0 ≡ false
  not_found none = by found none f.checked
    where
      by : (x : Result Bool PoolError) → (x ≡ Ok true → ⊥) → ChecksReceipt receipt x (viewed_state t.left).shown → is_durable (viewed_state t.left).shown receipt.ordinal.0 receipt.group.0 ≡ false
      by (Ok true) none checked = absurd (none refl)
      by (Ok false) none checked = sym checked.0
      by (Err e) none checked = checked.0

-- a refusal of a look
found_refusal : (receipt : Receipt) (e : PoolError) (s : State) → AreTablesExplained s.shown s.past → ChecksReceipt receipt (Err e) s.shown → IsRefusedBetween (wait_refusal receipt) e s s
found_refusal receipt e s x checked = record {
  state = s;
  no_earlier = ([], [], refl);
  no_later = ([], [], refl);
  explained = x;
  refused = ap (λ (b : Bool). if b then None else fsync_refusal receipt.ordinal.0 receipt.group.0 s.shown) checked.0 ∙ checked.1;
  suspended = λ is. receipt_suspends receipt.ordinal.0 receipt.group.0 s.shown (checked.1 ∙ ap (λ (y : PoolError). Some y) is);
}

-- what isn't durable wasn't so before
undurable_before : (ordinal group : ℕ) (a b : State) → AreTablesExplained a.shown a.past → AreTablesExplained b.shown b.past → GoesOn a b → is_durable b.shown ordinal group ≡ false → is_durable a.shown ordinal group ≡ false
undurable_before ordinal group a b x y on none = by (is_durable a.shown ordinal group) refl
  where
    by : (c : Bool) → is_durable a.shown ordinal group ≡ c → is_durable a.shown ordinal group ≡ false
    by true is = absurd (false≢true (sym none ∙ known-shown ordinal group b y (durable_is_known ordinal group a b x is on)))
    by false is = is

-- the last turn of a wait that is refused: of a look, of the log, or of a sync
abbrev LastTurn : Type 0 → Receipt → PoolError → Turn SeenPool → Type 0
LastTurn keeps receipt e t = FindsReceipt receipt (Err e) t
    ⊎ ((e ≢ error.NoLogSpace) × IsRefusedTurn keeps duty.CommitLog e t)
    ⊎ ((moment : ℕ) × IsRefusedTurn keeps (duty.SyncUpTo receipt.group moment) e t)

module _ {Dev : Type 0} {G : Ghosts Dev} where
  module _ (receipt : Receipt) where
    -- the state that is seen last is explained, and the transaction is durable in it
    abbrev FoundLast : Handle Dev G → Type 0
    FoundLast h = ∥ AreTablesExplained (state_seen h).shown (state_seen h).past ∥₁ × (is_durable (state_seen h).shown receipt.ordinal.0 receipt.group.0 ≡ true)

    -- its group is synced then
    found_by_sync : (old new : Handle Dev G) → SyncsInstead receipt (Ok tt) old new → FoundLast new
    found_by_sync old new s = (
      ∥∥₁_elim s.refused.made.made.2.1.explained ∥∥₁_prop (λ x.
          let turns = sync_turns receipt.group (Ok tt) s.syncs in
          ∥∥₁_map {B = AreTablesExplained (state_seen new).shown (state_seen new).past} (grows_onward _ _ _ _ turns.made.onward turns.made.made.0).goes_on
          (λ on. runs_keep_tables ⊥ on.0 on.1 (state_seen s.full) (state_seen new) on.2 x)),
      ap (λ (b : Bool). b || is_flushed_in (state_seen new).shown.log (record { ordinal = receipt.ordinal.0; group = receipt.group.0 })) (le-leb receipt.group.0 (state_seen new).shown.line.synced s.syncs.made.made.1),
    )

    -- a wait that returns Ok has found the transaction durable, in what the handle has seen then
    found_last : (old new : Handle Dev G) → WaitsForFlush receipt (Ok tt) old new → FoundLast new
    found_last old new w = by w.ends
      where
        of_turn : (t : Turn SeenPool) → t.left ≡ seen new.seat → FindsReceipt receipt (Ok true) t → FoundLast new
        of_turn t is f = subst (λ (v : SeenPool). ∥ AreTablesExplained (viewed_state v).shown v.past ∥₁ × (is_durable (viewed_state v).shown receipt.ordinal.0 receipt.group.0 ≡ true)) is (f.explained, sym f.checked.0)

        by : WaitsOnce receipt (Ok true) w.last new → FoundLast new
        by (inl look) = of_turn (turn look.made.took (seen new.seat)) refl look.made.made.1
        by (inr (inl (r, m))) = of_turn (turn m.made.took (seen new.seat)) refl m.made.made.1
        by (inr (inr s)) = found_by_sync w.last new s

    pub durable_seen : (result : Result (Unit {0}) PoolError) (old new : Handle Dev G) → WaitsForFlush receipt result old new → IfOk result (λ _. Sees (LeavesDurable receipt) old new)
    durable_seen (Ok done) old new w =
        let there = found_last old new w in
        ∥∥₁_map {B = LeavesDurable receipt (state_seen old) (state_seen new)} there.0 (λ x. durable_is_known receipt.ordinal.0 receipt.group.0 (state_seen new) (state_seen new) x there.1 ([], [], refl))
    durable_seen (Err e) old new w = tt

    -- a wait after one that returned Ok is not refused
    pub durable_twice : (e : PoolError) (old middle new : Handle Dev G) → WaitsUntil receipt (Ok tt) old middle → Sees (IsWaitingRefusal (moment_of middle) receipt e) middle new → ⊥
    durable_twice e old middle new w refused =
        let there = found_last old middle (as_flush_wait receipt (Ok tt) old middle w) in
        ∥∥₁_elim there.0 none (λ x.
        ∥∥₁_elim refused none (λ r. never_refused (moment_of middle) receipt e (state_seen middle) (state_seen new) x there.1 r))
      where
        none : (x y : ⊥) → x ≡ y
        none x y = absurd x

    -- a refusal, by a state in which the transaction wasn't durable, and what came after it
    refused_after : (e : PoolError) (moment : ℕ) (old : Handle Dev G) (at left : SeenPool) → GrowsTo (IsTrue G.keeps_model) (seen old.seat) at → ∥ AreTablesExplained (viewed_state at).shown at.past ∥₁
        → is_durable (viewed_state at).shown receipt.ordinal.0 receipt.group.0 ≡ false → ∥ IsRefusedAfter moment receipt e (viewed_state at) (viewed_state left) ∥₁ → ∥ IsWaitingRefusal moment receipt e (state_seen old) (viewed_state left) ∥₁
    refused_after e moment old at left onward sound none after =
        ∥∥₁_elim onward.goes_on ∥∥₁_prop (λ before.
        ∥∥₁_elim sound ∥∥₁_prop (λ x.
        ∥∥₁_map {B = IsWaitingRefusal moment receipt e (state_seen old) (viewed_state left)} after (λ r. record {
          looked = viewed_state at;
          no_earlier = before;
          explained = x;
          not_durable = none;
          refused = r;
        })))

    -- by the look in a turn
    refused_look : (e : PoolError) (moment : ℕ) (old : Handle Dev G) (t : Turn SeenPool) → GrowsTo (IsTrue G.keeps_model) (seen old.seat) t.left → FindsReceipt receipt (Err e) t → ∥ IsWaitingRefusal moment receipt e (state_seen old) (viewed_state t.left) ∥₁
    refused_look e moment old t onward f =
        refused_after e moment old t.left t.left onward f.explained f.checked.0
        (∥∥₁_map {B = IsRefusedAfter moment receipt e (viewed_state t.left) (viewed_state t.left)} f.explained (λ x. inl (found_refusal receipt e (viewed_state t.left) x f.checked)))

    -- by a step for the log
    refused_log : (e : PoolError) (moment : ℕ) (old : Handle Dev G) (t : Turn SeenPool) → GrowsTo (IsTrue G.keeps_model) (seen old.seat) t.took → IsRefusedLog (IsTrue G.keeps_model) receipt e t → ∥ IsWaitingRefusal moment receipt e (state_seen old) (viewed_state t.left) ∥₁
    refused_log e moment old t onward (found, other, (does, f)) =
        let l = last_made (IsTrue G.keeps_model) duty.CommitLog (reply.Refused e) t.took t.left does in
        ∥∥₁_elim l.made.explained ∥∥₁_prop (λ x.
        ∥∥₁_elim f.explained ∥∥₁_prop (λ y.
        ∥∥₁_elim (one_grows l.made).goes_on ∥∥₁_prop (λ on.
        refused_after e moment old l.at t.left (grows_onward _ _ _ _ onward l.onward) l.made.explained
        (undurable_before receipt.ordinal.0 receipt.group.0 (viewed_state l.at) (viewed_state t.left) x y on (not_found receipt found t f other))
        (∥∥₁_map {B = IsRefusedAfter moment receipt e (viewed_state l.at) (viewed_state t.left)} (refused_last (IsTrue G.keeps_model) duty.CommitLog e l.at t.took t.left l (grows_same (IsTrue G.keeps_model) l.at)) (λ r. inr (inl r))))))

    -- or in a sync instead
    refused_sync : (e : PoolError) (old now new : Handle Dev G) → TakesAny old now → SyncsInstead receipt (Err e) now new → Sees (IsWaitingRefusal (moment_of old) receipt e) old new
    refused_sync e old now new so_far s =
        let u = s.syncs in
        let full = s.refused.made in
        let grown = grows_by_due (IsTrue G.keeps_model) duty.CommitLog (Some (reply.Refused error.NoLogSpace)) full.took (seen s.full.seat) full.made.2.0 in
        let moment : moment_of s.full ≡ moment_of old = s.refused.same_pool.1 ∙ so_far.same_pool.1 in
        let refused = subst (λ (x : ℕ). IsRefusedTurn (IsTrue G.keeps_model) (duty.SyncUpTo receipt.group x) e (turn u.made.took (seen new.seat))) moment u.made.made in
        refused_after e (moment_of old) old (seen s.full.seat) (seen new.seat) (grows_onward _ _ _ _ so_far.made.onward (grows_onward _ _ _ _ full.onward grown)) full.made.2.1.explained
        (not_found receipt full.made.0 (turn full.took (seen s.full.seat)) full.made.2.1 full.made.1)
        (∥∥₁_map {B = IsRefusedAfter (moment_of old) receipt e (state_seen s.full) (state_seen new)} (refused_due (IsTrue G.keeps_model) (duty.SyncUpTo receipt.group (moment_of old)) e (seen s.full.seat) u.made.took (seen new.seat) u.made.onward refused) (λ r. inr (inr r)))

    pub refusal_seen : (result : Result (Unit {0}) PoolError) (old new : Handle Dev G) → WaitsForFlush receipt result old new → IfErr result (λ e. Sees (IsWaitingRefusal (moment_of old) receipt e) old new)
    refusal_seen (Ok done) old new w = tt
    refusal_seen (Err e) old new w = by w.ends
      where
        so_far : TakesAny old w.last
        so_far = wait_turns receipt w.rounds w.waits

        whole : TakesAnyAtLast old new
        whole = flush_wait receipt (Err e) w

        onward : GrowsTo (IsTrue G.keeps_model) (seen old.seat) (seen new.seat)
        onward = grows_onward _ _ _ _ whole.made.onward whole.made.made.0

        by : WaitsOnce receipt (Err e) w.last new → Sees (IsWaitingRefusal (moment_of old) receipt e) old new
        by (inl look) = refused_look e (moment_of old) old (turn look.made.took (seen new.seat)) onward look.made.made.1
        by (inr (inl (r, passed, m))) = refused_look e (moment_of old) old (turn m.made.took (seen new.seat)) onward m.made.made.1
        by (inr (inr (inl (other, m)))) = refused_log e (moment_of old) old (turn m.made.took (seen new.seat)) (grows_onward _ _ _ _ so_far.made.onward m.made.onward) m.made.made
        by (inr (inr (inr s))) = refused_sync e old w.last new so_far s

    last_turn : (e : PoolError) (old new : Handle Dev G) → WaitsForFlush receipt (Err e) old new → (took : SeenPool) × LastTurn (IsTrue G.keeps_model) receipt e (turn took (seen new.seat))
    last_turn e old new w = by w.ends
      where
        by : WaitsOnce receipt (Err e) w.last new → (took : SeenPool) × LastTurn (IsTrue G.keeps_model) receipt e (turn took (seen new.seat))
        by (inl look) = (look.made.took, inl look.made.made.1)
        by (inr (inl (r, passed, m))) = (m.made.took, inl m.made.made.1)
        by (inr (inr (inl (other, m)))) = (m.made.took, inr (inl (other, m.made.made.2.0)))
        by (inr (inr (inr s))) = (s.syncs.made.took, inr (inr (moment_of s.full, s.syncs.made.made)))

    pub log_space_never : (result : Result (Unit {0}) PoolError) (old new : Handle Dev G) → WaitsForFlush receipt result old new → IfErr result (λ e. e ≢ error.NoLogSpace)
    log_space_never (Ok done) old new w = tt
    log_space_never (Err e) old new w = λ is. let ended = last_turn e old new w in by is ended.0 ended.1
      where
        by : e ≡ error.NoLogSpace → (took : SeenPool) → LastTurn (IsTrue G.keeps_model) receipt e (turn took (seen new.seat)) → ⊥
        by is took (inl f) = other (receipt_refusals receipt.ordinal.0 receipt.group.0 (state_seen new).shown e f.checked.1)
          where
            other : (e ≡ error.Suspended) ⊎ (e ≡ error.BadRange) → ⊥
            other (inl one) = let no_way : error.NoLogSpace ≡ error.Suspended = sym is ∙ one in cc
            other (inr one) = let no_way : error.NoLogSpace ≡ error.BadRange = sym is ∙ one in cc
        by is took (inr (inl (other, m))) = other is
        by is took (inr (inr (moment, m))) = syncs_without_log (IsTrue G.keeps_model) took (seen new.seat) receipt.group moment e m is

    pub at_last_group : (result : Result (Unit {0}) PoolError) (old new : Handle Dev G) → WaitsForFlush receipt result old new → IfErr result (λ e. e ≡ error.NotReady → last_number ≤ (state_seen new).shown.line.open_group)
    at_last_group (Ok done) old new w = tt
    at_last_group (Err e) old new w = λ is. let ended = last_turn e old new w in by is ended.0 ended.1
      where
        by : e ≡ error.NotReady → (took : SeenPool) → LastTurn (IsTrue G.keeps_model) receipt e (turn took (seen new.seat)) → last_number ≤ (state_seen new).shown.line.open_group
        by is took (inl f) = absurd (other (receipt_refusals receipt.ordinal.0 receipt.group.0 (state_seen new).shown e f.checked.1))
          where
            other : (e ≡ error.Suspended) ⊎ (e ≡ error.BadRange) → ⊥
            other (inl one) = let no_way : error.NotReady ≡ error.Suspended = sym is ∙ one in cc
            other (inr one) = let no_way : error.NotReady ≡ error.BadRange = sym is ∙ one in cc
        by is took (inr (inl (other, m))) = absurd (log_is_ready (IsTrue G.keeps_model) took (seen new.seat) e is m)
        by is took (inr (inr (moment, m))) = leb-true last_number _ (syncs_to_last (IsTrue G.keeps_model) took (seen new.seat) receipt.group moment e m is)

  -- a sync of the whole pool, by its look and its turns
  pub pool_ended : (group : Group) (old looked new : Handle Dev G) (answer : Result Group PoolError) (result : Result (Unit {0}) PoolError) → HasLooked old looked → group.0 ≡ (state_seen looked).shown.line.open_group
      → SyncsUpTo group result looked new → answer ≡ result_of group result → SyncsPool answer old new
  pool_ended group old looked new answer result looks open_then syncs is = record { group = group; looked = looked; looks = looks; open_then = open_then; result = result; syncs = syncs; answered = is }

  -- a sync of the whole pool
  pub sync_refusal_seen : (answer : Result Group PoolError) (old new : Handle Dev G) → SyncsPool answer old new → IfErr answer (λ e. (group : Group) × Sees (IsSyncingRefusal (moment_of old) group e) old new)
  sync_refusal_seen answer old new p = by answer p.result p.answered p.syncs
    where
      by : (answer : Result Group PoolError) (result : Result (Unit {0}) PoolError) → answer ≡ result_of p.group result → SyncsUpTo p.group result p.looked new → IfErr answer (λ e. (group : Group) × Sees (IsSyncingRefusal (moment_of old) group e) old new)
      by (Ok g) result is u = tt
      by (Err e) (Ok done) is u = absurd (let no_way : Err e ≡ Ok p.group = is in cc)
      by (Err e) (Err f) is u =
          let same : f ≡ e = cc in
          let m = subst (λ (x : ℕ). IsRefusedTurn (IsTrue G.keeps_model) (duty.SyncUpTo p.group x) f (turn u.made.took (seen new.seat))) p.looks.same_pool.1 u.made.made in (
            p.group,
            subst (λ (x : PoolError). Sees (IsSyncingRefusal (moment_of old) p.group x) old new) same
                (refused_due (IsTrue G.keeps_model) (duty.SyncUpTo p.group (moment_of old)) f (seen old.seat) u.made.took (seen new.seat) (grows_onward _ _ _ _ p.looks.onward u.made.onward) m),
          )

  pub sync_at_last_group : (answer : Result Group PoolError) (old new : Handle Dev G) → SyncsPool answer old new → IfErr answer (λ e. e ≡ error.NotReady → last_number ≤ (state_seen new).shown.line.open_group)
  sync_at_last_group answer old new p = by answer p.result p.answered p.syncs
    where
      by : (answer : Result Group PoolError) (result : Result (Unit {0}) PoolError) → answer ≡ result_of p.group result → SyncsUpTo p.group result p.looked new → IfErr answer (λ e. e ≡ error.NotReady → last_number ≤ (state_seen new).shown.line.open_group)
      by (Ok g) result is u = tt
      by (Err e) (Ok done) is u = absurd (let no_way : Err e ≡ Ok p.group = is in cc)
      by (Err e) (Err f) is u = λ unready. let same : f ≡ e = cc in leb-true last_number _ (syncs_to_last (IsTrue G.keeps_model) u.made.took (seen new.seat) p.group (moment_of p.looked) f u.made.made (same ∙ unready))
