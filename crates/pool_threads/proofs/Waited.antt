-- A wait for a receipt and a sync up to a group, turn by turn.
use Rattle.std.proofs.Common.{◌≡◌, ◌++◌, ◌∷◌, ℕ, [], List, append_assoc, inl, inr, refl, sym, ap, subst, ◌∙◌}
use Rattle.std.proofs.lemmas.List.Elements.{All-append, All-push, All-weaker}
use Rattle.std.specs.Prelude.{◌≤◌, ◌⊎◌, Bool, IsErrAnd, IsTrue, None, Ok, Err, Option, Result, Some, false, true}
use Rattle.base.specs.declared.error.PoolError.{PoolError}
use Rattle.base.specs.declared.error.PoolError.TheVariants.{NoLogSpace}
use Rattle.base.specs.declared.names.Group.{Group}
use Rattle.base.specs.declared.names.Receipt.{Receipt}
use Rattle.base.specs.declared.step.Reply as declared_reply
use Rattle.base.specs.declared.step.Reply.TheVariants as reply
use Rattle.device_model.specs.declared.device.SectorDevice.{Ghosts}
use Rattle.pool_tables.specs.declared.duty.Duty.{Duty}
use Rattle.pool_tables.specs.declared.duty.Duty.TheVariants as duty
use Rattle.pool_threads.specs.declared.handle.Handle.{Handle}
use Rattle.pool_threads.specs.Answers.{Takes, TakesAtLast, TakesOne, state_seen}
use Rattle.pool_threads.specs.Handles.{moment_of}
use Rattle.pool_threads.specs.Serves.{GoesOnAfter, IsServedTurn}
use Rattle.pool_threads.specs.Turns.{AreUnbroken}
use Rattle.pool_threads.specs.Views.{GrowsTo, SeenPool, grows_onward, grows_same}
use Rattle.pool_threads.specs.Waits.{EndsAfter, EndsSyncing, IsRefusedToWrite, IsSyncTurn, Leads, LooksAt, SyncsInstead, SyncsUpTo, Waits, WaitsForFlush, WaitsOnce, WaitsUntil, WritesAndFinds, last_found}
use Rattle.pool_threads.proofs.Made.{met_none_on}
use Rattle.pool_threads.proofs.Served.{grows_by_due}
use Rattle.pool_threads.proofs.Tried.{at_last, no_turns, one_more_turn, stays_on, unbroken_push}
use Rattle.word_lock.specs.declared.rule.Turn.{Turn}
use Rattle.word_lock.specs.Seats.{seen, turns}
use Rattle.word_lock.specs.Turns.{turn}

unbroken_join : (u : SeenPool) (xs : List (Turn SeenPool)) (v : SeenPool) (ys : List (Turn SeenPool)) (w : SeenPool) → AreUnbroken u xs v → AreUnbroken v ys w → AreUnbroken u (xs ++ ys) w
unbroken_join u [] v ys w same line = subst (λ (x : SeenPool). AreUnbroken x ys w) same line
unbroken_join u (t ∷ ts) v ys w first line = (first.0, unbroken_join t.left ts v ys w first.1 line)

-- in this turn nothing changed, or that was done which was due
abbrev pub LooksOrServes : Type 0 → Turn SeenPool → Type 0
LooksOrServes keeps t = (t.left ≡ t.took) ⊎ ((d : Duty) × (r : Option declared_reply.Reply) × IsServedTurn keeps d r t)

-- such a turn, which leads on
abbrev pub LeadsOn : Type 0 → Turn SeenPool → Type 0
LeadsOn keeps t = GrowsTo keeps t.took t.left × LooksOrServes keeps t

served_leads : (keeps : Type 0) (d : Duty) (r : Option declared_reply.Reply) (t : Turn SeenPool) → IsServedTurn keeps d r t → LeadsOn keeps t
served_leads keeps d r t made = (grows_by_due keeps d r t.took t.left made, inr (d, r, made))

module _ {Dev : Type 0} {G : Ghosts Dev} where
  -- turns of one kind, and then others
  pub takes_on : {P : Turn SeenPool → Type 0} {old now next : Handle Dev G} → Takes P old now → Takes P now next → Takes P old next
  takes_on {P} {old} {now} {next} t u = record {
    same_pool = stays_on old now next t.same_pool u.same_pool;
    made = record {
      had = t.made.had ++ u.made.had;
      each = All-append P t.made.had u.made.had t.made.each u.made.each;
      onward = grows_onward _ _ _ _ t.made.onward u.made.onward;
      turns = u.made.turns ∙ ap (λ (ts : List (Turn SeenPool)). ts ++ u.made.had) t.made.turns ∙ append_assoc (turns old.seat) t.made.had u.made.had;
      met_none = met_none_on old.seat now.seat next.seat t.made.met_none u.made.met_none;
      alone = λ only. unbroken_join (seen old.seat) t.made.had (seen now.seat) u.made.had (seen next.seat) (t.made.alone only) (u.made.alone (t.made.met_none.0 ∙ only));
    };
  }

  pub ends_on : {P Q : Turn SeenPool → Type 0} {old now next : Handle Dev G} → Takes P old now → TakesAtLast P Q now next → TakesAtLast P Q old next
  ends_on {P} {Q} {old} {now} {next} t u = record {
    same_pool = stays_on old now next t.same_pool u.same_pool;
    made = record {
      had = t.made.had ++ u.made.had;
      each = All-append P t.made.had u.made.had t.made.each u.made.each;
      took = u.made.took;
      onward = grows_onward _ _ _ _ t.made.onward u.made.onward;
      made = u.made.made;
      turn = u.made.turn ∙ ap (λ (ts : List (Turn SeenPool)). ts ++ turn u.made.took (seen next.seat) ∷ [])
          (ap (λ (ts : List (Turn SeenPool)). ts ++ u.made.had) t.made.turns ∙ append_assoc (turns old.seat) t.made.had u.made.had);
      met_none = met_none_on old.seat now.seat next.seat t.made.met_none u.made.met_none;
      alone = λ only. unbroken_join (seen old.seat) t.made.had (seen now.seat) u.made.had u.made.took (t.made.alone only) (u.made.alone (t.made.met_none.0 ∙ only));
    };
  }

  -- turns of one kind are turns of another
  pub takes_as : {P R : Turn SeenPool → Type 0} {old now : Handle Dev G} → ((t : Turn SeenPool) → P t → R t) → Takes P old now → Takes R old now
  takes_as {P} {R} p u = record {
    same_pool = u.same_pool;
    made = record { had = u.made.had; each = All-weaker P R p u.made.had u.made.each; onward = u.made.onward; turns = u.made.turns; met_none = u.made.met_none; alone = u.made.alone };
  }

  pub ends_as : {P Q R S : Turn SeenPool → Type 0} {old new : Handle Dev G} → ((t : Turn SeenPool) → P t → R t) → ((t : Turn SeenPool) → Q t → S t) → TakesAtLast P Q old new → TakesAtLast R S old new
  ends_as {P} {Q} {R} p q u = record {
    same_pool = u.same_pool;
    made = record {
      had = u.made.had;
      each = All-weaker P R p u.made.had u.made.each;
      took = u.made.took;
      onward = u.made.onward;
      made = q _ u.made.made;
      turn = u.made.turn;
      met_none = u.made.met_none;
      alone = u.made.alone;
    };
  }

  -- a last turn that is like those before it
  pub all_alike : {P Q : Turn SeenPool → Type 0} {old new : Handle Dev G} → ((t : Turn SeenPool) → Q t → P t × GrowsTo (IsTrue G.keeps_model) t.took t.left) → TakesAtLast P Q old new → Takes P old new
  all_alike {P} {Q} {old} {new} q u =
      let last = q (turn u.made.took (seen new.seat)) u.made.made in
      record {
        same_pool = u.same_pool;
        made = record {
          had = u.made.had ++ turn u.made.took (seen new.seat) ∷ [];
          each = All-push P u.made.had (turn u.made.took (seen new.seat)) u.made.each last.0;
          onward = grows_onward _ _ _ _ u.made.onward last.1;
          turns = u.made.turn ∙ append_assoc (turns old.seat) u.made.had (turn u.made.took (seen new.seat) ∷ []);
          met_none = u.made.met_none;
          alone = λ only. unbroken_push (seen old.seat) u.made.had u.made.took u.made.took (seen new.seat) (u.made.alone only) refl;
        };
      }

  -- one turn, of which more is known
  abbrev pub served_as : {P Q : Turn SeenPool → Type 0} {old new : Handle Dev G} → ((t : Turn SeenPool) → P t → Q t) → TakesOne P old new → TakesOne Q old new
  served_as {new = new} q m = record {
    same_pool = m.same_pool;
    made = record { took = m.made.took; onward = m.made.onward; made = q (turn m.made.took (seen new.seat)) m.made.made; turn = m.made.turn; met_none = m.made.met_none; alone = m.made.alone };
  }

  -- what was done for a duty in one turn
  abbrev pub Served : Duty → Option declared_reply.Reply → Handle Dev G → Handle Dev G → Type 0
  Served d r = TakesOne (IsServedTurn (IsTrue G.keeps_model) d r)

  module _ (d : Duty) (r : Option declared_reply.Reply) where
    pub served_grows : {old new : Handle Dev G} (m : Served d r old new) → GrowsTo (IsTrue G.keeps_model) m.made.took (seen new.seat)
    served_grows {old} {new} m = grows_by_due (IsTrue G.keeps_model) d r m.made.took (seen new.seat) m.made.made

    -- a refusal of the last step
    pub refused_as : (e : PoolError) {old new : Handle Dev G} → r ≡ Some (reply.Refused e) → Served d r old new → Served d (Some (reply.Refused e)) old new
    refused_as e {old} {new} is m = subst (λ (x : Option declared_reply.Reply). Served d x old new) is m

  -- a sync up to a group
  module _ (moment : ℕ) (group : Group) (r : Option declared_reply.Reply) where
    abbrev Syncs : Handle Dev G → Handle Dev G → Type 0
    Syncs = Takes (IsSyncTurn (IsTrue G.keeps_model) moment group)

    pub syncs_more : {old now next : Handle Dev G} → GoesOnAfter None r → Syncs old now → Served (duty.SyncUpTo group moment) r now next → Syncs old next
    syncs_more passed t m = one_more_turn _ t (served_as (λ u made. (r, passed, made)) m) (served_grows (duty.SyncUpTo group moment) r m)

    pub syncs_to_end : {old now new : Handle Dev G} → GoesOnAfter None r → Syncs old now → Served (duty.SyncUpTo group moment) r now new → group.0 ≤ (state_seen new).shown.line.synced
        → TakesAtLast (IsSyncTurn (IsTrue G.keeps_model) moment group) (EndsSyncing (IsTrue G.keeps_model) moment group (Ok tt)) old new
    syncs_to_end passed t m there = at_last _ t (record {
      same_pool = m.same_pool;
      made = record { took = m.made.took; onward = m.made.onward; made = ((r, passed, m.made.made), there); turn = m.made.turn; met_none = m.made.met_none; alone = m.made.alone };
    })

    pub syncs_refused : (e : PoolError) {old now new : Handle Dev G} → Syncs old now → r ≡ Some (reply.Refused e) → Served (duty.SyncUpTo group moment) r now new
        → TakesAtLast (IsSyncTurn (IsTrue G.keeps_model) moment group) (EndsSyncing (IsTrue G.keeps_model) moment group (Err e)) old new
    syncs_refused e t is m = at_last _ t (refused_as (duty.SyncUpTo group moment) r e is m)

  -- turns that lead on: one, some, and one at last
  abbrev pub TakesAnyOne : Handle Dev G → Handle Dev G → Type 0
  TakesAnyOne = TakesOne (LeadsOn (IsTrue G.keeps_model))

  abbrev pub TakesAny : Handle Dev G → Handle Dev G → Type 0
  TakesAny = Takes (LeadsOn (IsTrue G.keeps_model))

  abbrev pub TakesAnyAtLast : Handle Dev G → Handle Dev G → Type 0
  TakesAnyAtLast = TakesAtLast (LeadsOn (IsTrue G.keeps_model)) (LeadsOn (IsTrue G.keeps_model))

  pub more_leads_on : {old now next : Handle Dev G} → TakesAny old now → TakesAnyOne now next → TakesAny old next
  more_leads_on t m = one_more_turn _ t m m.made.made.0

  pub sync_turns : (group : Group) (result : Result (Unit {0}) PoolError) {old new : Handle Dev G} → SyncsUpTo group result old new → TakesAnyAtLast old new
  sync_turns group result {old} {new} u = ends_as (λ t made. served_leads (IsTrue G.keeps_model) d made.0 t made.2) (by result) u
    where
      d : Duty
      d = duty.SyncUpTo group (moment_of old)

      by : (x : Result (Unit {0}) PoolError) (t : Turn SeenPool) → EndsSyncing (IsTrue G.keeps_model) (moment_of old) group x t → LeadsOn (IsTrue G.keeps_model) t
      by (Ok done) t made = served_leads (IsTrue G.keeps_model) d made.0.0 t made.0.2
      by (Err e) t made = served_leads (IsTrue G.keeps_model) d (Some (reply.Refused e)) t made

  -- a wait for a receipt, turn by turn
  module _ (receipt : Receipt) where
    look_turn : (found : Result Bool PoolError) {old new : Handle Dev G} → LooksAt receipt found old new → TakesAnyOne old new
    look_turn found m = served_as (λ t f. (subst (GrowsTo (IsTrue G.keeps_model) t.took) (sym f.0) (grows_same (IsTrue G.keeps_model) t.took), inl f.0)) m

    log_turn : (r : Option declared_reply.Reply) (found : Result Bool PoolError) {old new : Handle Dev G} → WritesAndFinds receipt r found old new → TakesAnyOne old new
    log_turn r found m = served_as (λ t made. served_leads (IsTrue G.keeps_model) duty.CommitLog r t made.0) m

    refused_turn : (e : PoolError) {old new : Handle Dev G} → IsRefusedToWrite receipt e old new → TakesAnyOne old new
    refused_turn e m = served_as (λ t made. served_leads (IsTrue G.keeps_model) duty.CommitLog (Some (reply.Refused e)) t made.2.0) m

    at_once : {old new : Handle Dev G} → TakesAnyOne old new → TakesAnyAtLast old new
    at_once {old} m = at_last _ (no_turns _ old) m

    sync_instead : (result : Result (Unit {0}) PoolError) {old new : Handle Dev G} → SyncsInstead receipt result old new → TakesAnyAtLast old new
    sync_instead result {old} s = ends_on (more_leads_on (no_turns _ old) (refused_turn NoLogSpace s.refused)) (sync_turns receipt.group result s.syncs)

    lead_turns : (found : Result Bool PoolError) {old new : Handle Dev G} → Leads receipt found old new → TakesAnyAtLast old new
    lead_turns (Ok true) (inl (r, m)) = at_once (log_turn r (Ok true) m)
    lead_turns (Ok true) (inr s) = sync_instead (Ok tt) s
    lead_turns (Ok false) (r, passed, m) = at_once (log_turn r (Ok false) m)
    lead_turns (Err e) (inl (r, passed, m)) = at_once (log_turn r (Err e) m)
    lead_turns (Err e) (inr (inl (other, m))) = at_once (refused_turn e m)
    lead_turns (Err e) (inr (inr s)) = sync_instead (Err e) s

    round_at_last : (found : Result Bool PoolError) {old new : Handle Dev G} → WaitsOnce receipt found old new → TakesAnyAtLast old new
    round_at_last found (inl look) = at_once (look_turn found look)
    round_at_last found (inr led) = lead_turns found led

    round_turns : (found : Result Bool PoolError) {old new : Handle Dev G} → WaitsOnce receipt found old new → TakesAny old new
    round_turns found w = all_alike (λ t leads. (leads, leads.0)) (round_at_last found w)

    pub wait_turns : (rounds : List (Handle Dev G)) {old now : Handle Dev G} → Waits receipt rounds old now → TakesAny old now
    wait_turns [] {old} same = subst (λ (h : Handle Dev G). TakesAny old h) (sym same) (no_turns _ old)
    wait_turns (h ∷ hs) (first, rest) = takes_on (round_turns (Ok false) first) (wait_turns hs rest)

    pub flush_wait : (result : Result (Unit {0}) PoolError) {old new : Handle Dev G} → WaitsForFlush receipt result old new → TakesAnyAtLast old new
    flush_wait result w = ends_on (wait_turns w.rounds w.waits) (round_at_last (last_found result) w.ends)

    -- a wait that looks first is one of which the look is a round
    module _ (result : Result (Unit {0}) PoolError) (old looked new : Handle Dev G) where
      looks_last : (found : Result Bool PoolError) → last_found result ≡ found → LooksAt receipt found old looked → new ≡ looked → WaitsForFlush receipt result old new
      looks_last found is look same = record {
        rounds = [];
        last = old;
        waits = refl;
        ends = inl (subst (λ (h : Handle Dev G). LooksAt receipt (last_found result) old h) (sym same) (subst (λ (x : Result Bool PoolError). LooksAt receipt x old looked) (sym is) look));
      }

      looks_before : (found : Result Bool PoolError) → LooksAt receipt found old looked → EndsAfter receipt found result looked new → WaitsForFlush receipt result old new
      looks_before (Ok true) look (is, same) = looks_last (Ok true) (ap last_found is) look same
      looks_before (Ok false) look f = record { rounds = looked ∷ f.rounds; last = f.last; waits = (inl look, f.waits); ends = f.ends }
      looks_before (Err e) look (is, same) = looks_last (Err e) (ap last_found is) look same

    pub as_flush_wait : (result : Result (Unit {0}) PoolError) (old new : Handle Dev G) → WaitsUntil receipt result old new → WaitsForFlush receipt result old new
    as_flush_wait result old new w = looks_before result old w.looked new w.found w.looks w.ends

    -- and so it is made
    module _ (x : Result Bool PoolError) {old looked : Handle Dev G} (look : LooksAt receipt x old looked) where
      looked_as : (y : Result Bool PoolError) → x ≡ y → LooksAt receipt y old looked
      looked_as y is = subst (λ (z : Result Bool PoolError). LooksAt receipt z old looked) is look

      pub look_durable : x ≡ Ok true → WaitsUntil receipt (Ok tt) old looked
      look_durable is = record { found = Ok true; looked = looked; looks = looked_as (Ok true) is; ends = (refl, refl) }

      pub look_refused : (result : Result (Unit {0}) PoolError) (e : PoolError) → x ≡ Err e → IsErrAnd result (λ f. f ≡ e) → WaitsUntil receipt result old looked
      look_refused (Ok done) e is same = absurd same
      look_refused (Err f) e is same = record { found = Err e; looked = looked; looks = looked_as (Err e) is; ends = (ap (λ (g : PoolError). Err g) same, refl) }

      pub look_and_wait : (result : Result (Unit {0}) PoolError) {new : Handle Dev G} → x ≡ Ok false → WaitsForFlush receipt result looked new → WaitsUntil receipt result old new
      look_and_wait result is w = record { found = Ok false; looked = looked; looks = looked_as (Ok false) is; ends = w }

    pub whole_wait : (result : Result (Unit {0}) PoolError) {old new : Handle Dev G} → WaitsUntil receipt result old new → TakesAnyAtLast old new
    whole_wait result {old} {new} w = flush_wait result (as_flush_wait result old new w)

  -- a wait for a flush, round by round
  module _ (receipt : Receipt) where
    one_more_round : (rounds : List (Handle Dev G)) (old now next : Handle Dev G) → Waits receipt rounds old now → WaitsOnce receipt (Ok false) now next → Waits receipt (rounds ++ next ∷ []) old next
    one_more_round [] old now next same once = (subst (λ (h : Handle Dev G). WaitsOnce receipt (Ok false) h next) same once, refl)
    one_more_round (h ∷ hs) old now next (first, rest) once = (first, one_more_round hs h now next rest once)

    -- so far the handle waited
    pub record HasWaited (old now : Handle Dev G) : Type 0 where
      pub rounds : List (Handle Dev G)
      pub waits : Waits receipt rounds old now

    -- one round more, by what it found
    module _ (x : Result Bool PoolError) {old now next : Handle Dev G} (so_far : HasWaited old now) (once : WaitsOnce receipt x now next) where
      found_as : (y : Result Bool PoolError) → x ≡ y → WaitsOnce receipt y now next
      found_as y is = subst (λ (z : Result Bool PoolError). WaitsOnce receipt z now next) is once

      pub waited_on : x ≡ Ok false → HasWaited old next
      waited_on is = record { rounds = so_far.rounds ++ next ∷ []; waits = one_more_round so_far.rounds old now next so_far.waits (found_as (Ok false) is) }

      ended : (result : Result (Unit {0}) PoolError) → x ≡ last_found result → WaitsForFlush receipt result old next
      ended result is = record { rounds = so_far.rounds; last = now; waits = so_far.waits; ends = found_as (last_found result) is }

      pub waited_out : x ≡ Ok true → WaitsForFlush receipt (Ok tt) old next
      waited_out is = ended (Ok tt) is

      -- the same refusal as a result
      pub wait_refused : (result : Result (Unit {0}) PoolError) (e : PoolError) → x ≡ Err e → IsErrAnd result (λ f. f ≡ e) → WaitsForFlush receipt result old next
      wait_refused (Ok done) e is same = absurd same
      wait_refused (Err f) e is same = ended (Err f) (is ∙ ap (λ (g : PoolError). Err g) (sym same))

    -- one who leads writes and flushes the log, and looks
    module _ (r : Option declared_reply.Reply) (found : Result Bool PoolError) {old now : Handle Dev G} (m : WritesAndFinds receipt r found old now) where
      pub found_durable : found ≡ Ok true → Leads receipt (Ok true) old now
      found_durable is = inl (r, subst (λ (x : Result Bool PoolError). WritesAndFinds receipt r x old now) is m)

      pub found_so : GoesOnAfter None r → Leads receipt found old now
      found_so passed = by found m
        where
          by : (x : Result Bool PoolError) → WritesAndFinds receipt r x old now → Leads receipt x old now
          by (Ok true) m = inl (r, m)
          by (Ok false) m = (r, passed, m)
          by (Err e) m = inl (r, passed, m)

      -- a refusal of a step
      module _ (e : PoolError) (is : r ≡ Some (reply.Refused e)) (none : found ≡ Ok true → ⊥) where
        refused_to_write : IsRefusedToWrite receipt e old now
        refused_to_write = served_as (λ t made. (found, none, (subst (λ (x : Option declared_reply.Reply). IsServedTurn (IsTrue G.keeps_model) duty.CommitLog x t) is made.0, made.1))) m

        pub log_refused : (e ≡ NoLogSpace → ⊥) → Leads receipt (Err e) old now
        log_refused other = inr (inl (other, refused_to_write))

        -- or groups were synced up to the receipt's
        pub synced_instead : (result : Result (Unit {0}) PoolError) {new : Handle Dev G} → e ≡ NoLogSpace → SyncsUpTo receipt.group result now new → Leads receipt (last_found result) old new
        synced_instead result {new} full u = by result u
          where
            refused : IsRefusedToWrite receipt NoLogSpace old now
            refused = subst (λ (f : PoolError). IsRefusedToWrite receipt f old now) full refused_to_write

            by : (x : Result (Unit {0}) PoolError) → SyncsUpTo receipt.group x now new → Leads receipt (last_found x) old new
            by (Ok done) s = inr (record { full = now; refused = refused; syncs = s })
            by (Err f) s = inr (inr (record { full = now; refused = refused; syncs = s }))
