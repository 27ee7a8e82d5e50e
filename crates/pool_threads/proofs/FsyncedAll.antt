-- What a wait for all commits says to its handle.
use Rattle.std.proofs.Common.{◌≡◌, ◌≢◌, ◌≤◌, ◌⊎◌, ◌++◌, ◌∷◌, ℕ, [], List, append_assoc, append-nil, ap, arith, inl, inr, subst, sym, ◌∙◌}
use Rattle.std.specs.Prelude.{Err, IfErr, IfOk, IsTrue, None, Ok, Option, Result, Some}
use Rattle.std.proofs.Math.Logic.{∥∥₁_elim, ∥∥₁_map, ∥∥₁_prop}
use Rattle.base.specs.declared.error.PoolError.{PoolError}
use Rattle.base.specs.declared.error.PoolError.TheVariants as error
use Rattle.base.specs.declared.names.Group.{Group}
use Rattle.base.specs.declared.step.Reply as declared_reply
use Rattle.base.specs.declared.step.Reply.TheVariants as reply
use Rattle.base.specs.steps.Tables.{GoesOn, AreTablesExplained}
use Rattle.base.specs.steps.Steps.{State}
use Rattle.base.proofs.steps.SeenGroups.{groups_go_up}
use Rattle.base.proofs.steps.SeenStates.{at-prefix, grown}
use Rattle.device_model.specs.declared.device.SectorDevice.{Ghosts}
use Rattle.pool_tables.specs.declared.duty.Duty.TheVariants as duty
use Rattle.pool_threads.specs.declared.handle.Handle.{Handle}
use Rattle.pool_threads.specs.Answers.{Sees, state_seen}
use Rattle.pool_threads.specs.Handles.{moment_of, turns_of, view_seen}
use Rattle.pool_threads.specs.Serves.{MakesDue, due_of}
use Rattle.pool_threads.specs.Views.{GrowsTo, SeenPool, grows_onward, viewed_state}
use Rattle.pool_threads.specs.Waits.{AreDurable, EndsFsync, IsFsyncAllRefusal, IsLogOutcome, IsSyncingRefusal, LeavesAllDurable, NeedsSync, SyncsPool, SyncsUpTo, WritesLogInTurn, result_of}
use Rattle.pool_threads.proofs.DurableLogs.{all_durable, settled, settled_after}
use Rattle.pool_threads.proofs.Served.{grows_by_due, last_made, refused_due}
use Rattle.pool_threads.proofs.WaitsSeen.{syncs_without_log}
use Rattle.word_lock.specs.declared.rule.Turn.{Turn}
use Rattle.word_lock.specs.Turns.{turn}

-- what is durable of a later state is so of what an earlier one had
durable_before : (at s : State) → GoesOn at s → AreDurable s s → AreDurable at s
durable_before at s onward all = λ o e there. all o e (at-prefix at.past.entries s.past.entries o e (grown at s onward).entries there)

-- each entry is of a group up to the open one, so it is durable once that is synced
durable_by_sync : (at s after : State) → GoesOn at s → AreTablesExplained s.shown s.past → s.shown.line.open_group ≤ after.shown.line.synced → AreDurable at after
durable_by_sync at s after onward x synced = λ o e there.
    let here = at-prefix at.past.entries s.past.entries o e (grown at s onward).entries there in
    let a = x.exact.groups.members.committed o e here in
    let known : a.0.group ≤ s.shown.line.open_group = x.exact.groups.members.known e.tx a.0 a.1 in
    let same : a.0.group ≡ e.group = a.2 in
    inl (omega arith)

-- a view of a pool that its past explains
abbrev pub IsSound : SeenPool → Type 0
IsSound v = ∥ AreTablesExplained (viewed_state v).shown v.past ∥₁

module _ (keeps : Type 0) (took left : SeenPool) (sound : IsSound left) where
  -- a turn after which nothing is due for the log
  durable_after : (r : Option declared_reply.Reply) → (r ≡ None) ⊎ (r ≡ Some reply.Flushed) → MakesDue keeps duty.CommitLog r took left → ∥ AreDurable (viewed_state took) (viewed_state left) ∥₁
  durable_after r (inl is) made =
      let none : MakesDue keeps duty.CommitLog None took left = subst (λ (q : Option declared_reply.Reply). MakesDue keeps duty.CommitLog q took left) is made in
      let due : due_of duty.CommitLog left ≡ None = subst (λ (v : SeenPool). due_of duty.CommitLog v ≡ None) (sym none.1) none.0 in
      ∥∥₁_elim (grows_by_due keeps duty.CommitLog r took left made).goes_on ∥∥₁_prop (λ onward.
      ∥∥₁_map {B = AreDurable (viewed_state took) (viewed_state left)} sound (λ x. durable_before (viewed_state took) (viewed_state left) onward (all_durable (viewed_state left) x (settled (viewed_state left).shown due))))
  durable_after r (inr is) made =
      let l = last_made keeps duty.CommitLog reply.Flushed took left (subst (λ (q : Option declared_reply.Reply). MakesDue keeps duty.CommitLog q took left) is made) in
      ∥∥₁_elim (grows_by_due keeps duty.CommitLog r took left made).goes_on ∥∥₁_prop (λ onward.
      ∥∥₁_elim l.made.step ∥∥₁_prop (λ one.
      ∥∥₁_map {B = AreDurable (viewed_state took) (viewed_state left)} sound (λ x. durable_before (viewed_state took) (viewed_state left) onward
      (all_durable (viewed_state left) x (settled_after l.step (viewed_state l.at) (viewed_state left) l.due one)))))

module _ {Dev : Type 0} {G : Ghosts Dev} (old wrote new : Handle Dev G) (r : Option declared_reply.Reply) (writes : WritesLogInTurn r old wrote) where
  abbrev took : SeenPool
  took = writes.made.took

  leads : GrowsTo (IsTrue G.keeps_model) took (view_seen wrote)
  leads = grows_by_due (IsTrue G.keeps_model) duty.CommitLog r took (view_seen wrote) writes.made.made

  module _ (sound : IsSound (view_seen wrote)) where
    no_sync : (r ≡ None) ⊎ (r ≡ Some reply.Flushed) → new ≡ wrote → LeavesAllDurable old new
    no_sync done same = subst (λ (h : Handle Dev G). LeavesAllDurable old h) (sym same) (record {
      took = took;
      left = view_seen wrote;
      later = [];
      turns = writes.made.turn ∙ sym (append-nil (turns_of old ++ turn took (view_seen wrote) ∷ []));
      onward = writes.made.onward;
      durable = durable_after (IsTrue G.keeps_model) took (view_seen wrote) sound r done writes.made.made;
    })

    by_sync : (group : Group) → SyncsPool (Ok group) wrote new → LeavesAllDurable old new
    by_sync group s = go s.result s.answered s.syncs
      where
        go : (q : Result (Unit {0}) PoolError) → Ok group ≡ result_of s.group q → SyncsUpTo s.group q s.looked new → LeavesAllDurable old new
        go (Err e) is u = absurd (let no_way : Ok group ≡ Err e = is in cc)
        go (Ok tt) is u =
            let look : Turn SeenPool = turn (view_seen s.looked) (view_seen s.looked) in
            let last : Turn SeenPool = turn u.made.took (view_seen new) in
            let first : List (Turn SeenPool) = turns_of old ++ turn took (view_seen wrote) ∷ [] in
            record {
              took = took;
              left = view_seen wrote;
              later = (look ∷ []) ++ (u.made.had ++ last ∷ []);
              turns = u.made.turn ∙ append_assoc (turns_of s.looked) u.made.had (last ∷ [])
                  ∙ ap (λ (ts : List (Turn SeenPool)). ts ++ (u.made.had ++ last ∷ [])) (s.looks.turn ∙ ap (λ (ts : List (Turn SeenPool)). ts ++ look ∷ []) writes.made.turn)
                  ∙ append_assoc first (look ∷ []) (u.made.had ++ last ∷ []);
              onward = writes.made.onward;
              durable =
                  ∥∥₁_elim leads.goes_on ∥∥₁_prop (λ onward.
                  ∥∥₁_elim s.looks.onward.goes_on ∥∥₁_prop (λ later.
                  ∥∥₁_map {B = AreDurable (viewed_state took) (state_seen new)} sound (λ x.
                  let up = (groups_go_up (state_seen wrote) (state_seen s.looked) x later).1 in
                  let group_is = s.open_then in
                  let synced = u.made.made.1 in
                  durable_by_sync (viewed_state took) (state_seen wrote) (state_seen new) onward x (omega (arith, up, group_is, synced)))));
            }

    pub all_are_durable : (result : Result (Unit {0}) PoolError) (outcome : Option (Result (Unit {0}) PoolError)) → IsLogOutcome r outcome → EndsFsync outcome result wrote new → IfOk result (λ _. LeavesAllDurable old new)
    all_are_durable (Err e) outcome is ends = tt
    all_are_durable (Ok done) (Some (Ok found)) is ends = no_sync is ends.1
    all_are_durable (Ok done) (Some (Err e)) is ends = absurd (let no_way : Ok done ≡ Err e = ends.0 in cc)
    all_are_durable (Ok done) None is ends = by_sync ends.0 ends.1

  -- a refusal of the turn for the log
  pub refused_first : (e : PoolError) → r ≡ Some (reply.Refused e) → new ≡ wrote → Sees (IsFsyncAllRefusal (moment_of old) e) old new
  refused_first e is same =
      let made = subst (λ (q : Option declared_reply.Reply). MakesDue (IsTrue G.keeps_model) duty.CommitLog q took (view_seen wrote)) is writes.made.made in
      subst (λ (h : Handle Dev G). Sees (IsFsyncAllRefusal (moment_of old) e) old h) (sym same)
      (∥∥₁_map {B = IsFsyncAllRefusal (moment_of old) e (state_seen old) (state_seen wrote)} (refused_due (IsTrue G.keeps_model) duty.CommitLog e (view_seen old) took (view_seen wrote) writes.made.onward made) (λ h. inl h))

  -- and one of the sync
  module _ (e : PoolError) (s : SyncsPool (Err e) wrote new) where
    abbrev moment : ℕ
    moment = moment_of s.looked

    -- in its last turn a step was refused so
    refused_last : SyncsUpTo s.group (Err e) s.looked new
    refused_last = go s.result s.answered s.syncs
      where
        go : (q : Result (Unit {0}) PoolError) → Err e ≡ result_of s.group q → SyncsUpTo s.group q s.looked new → SyncsUpTo s.group (Err e) s.looked new
        go (Ok tt) is u = absurd (let no_way : Err e ≡ Ok s.group = is in cc)
        go (Err f) is u = let same : e ≡ f = let given : Err e ≡ Err f = is in cc in subst (λ (x : PoolError). SyncsUpTo s.group (Err x) s.looked new) (sym same) u

    pub refused_in_sync : Sees (IsFsyncAllRefusal (moment_of old) e) old new
    refused_in_sync =
        let u = refused_last in
        let onward = grows_onward _ _ _ _ writes.made.onward (grows_onward _ _ _ _ leads (grows_onward _ _ _ _ s.looks.onward u.made.onward)) in
        let same : moment ≡ moment_of old = s.looks.same_pool.1 ∙ writes.same_pool.1 in
        ∥∥₁_map {B = IsFsyncAllRefusal (moment_of old) e (state_seen old) (state_seen new)} (refused_due (IsTrue G.keeps_model) (duty.SyncUpTo s.group moment) e (view_seen old) u.made.took (view_seen new) onward u.made.made)
        (λ h. inr (s.group, subst (λ (m : ℕ). IsSyncingRefusal m s.group e (state_seen old) (state_seen new)) same h))

    pub never_log_space : e ≢ error.NoLogSpace
    never_log_space is = syncs_without_log (IsTrue G.keeps_model) refused_last.made.took (view_seen new) s.group moment e refused_last.made.made is

  pub refusal_of_all : (result : Result (Unit {0}) PoolError) (outcome : Option (Result (Unit {0}) PoolError)) → IsLogOutcome r outcome → EndsFsync outcome result wrote new
      → IfErr result (λ e. Sees (IsFsyncAllRefusal (moment_of old) e) old new)
  refusal_of_all (Ok tt) outcome is ends = tt
  refusal_of_all (Err e) (Some (Ok tt)) is ends = absurd (let no_way : Err e ≡ Ok tt = ends.0 in cc)
  refusal_of_all (Err e) (Some (Err f)) is ends = let same : e ≡ f = let given : Err e ≡ Err f = ends.0 in cc in refused_first e (is.0 ∙ ap (λ (x : PoolError). Some (reply.Refused x)) (sym same)) ends.1
  refusal_of_all (Err e) None is ends = refused_in_sync e ends

  pub never_for_space : (result : Result (Unit {0}) PoolError) (outcome : Option (Result (Unit {0}) PoolError)) → IsLogOutcome r outcome → EndsFsync outcome result wrote new → IfErr result (λ e. e ≢ error.NoLogSpace)
  never_for_space (Ok tt) outcome is ends = tt
  never_for_space (Err e) (Some (Ok tt)) is ends = absurd (let no_way : Err e ≡ Ok tt = ends.0 in cc)
  never_for_space (Err e) (Some (Err f)) is ends = let same : e ≡ f = let given : Err e ≡ Err f = ends.0 in cc in λ no. is.1 (sym same ∙ no)
  never_for_space (Err e) None is ends = never_log_space e ends

  pub nothing_due : (result : Result (Unit {0}) PoolError) (outcome : Option (Result (Unit {0}) PoolError)) → IsLogOutcome r outcome → EndsFsync outcome result wrote new → r ≡ None → (result ≡ Ok tt) × (new ≡ wrote)
  nothing_due result (Some (Ok tt)) is ends none = ends
  nothing_due result (Some (Err e)) is ends none = absurd (let no_way : None ≡ Some (reply.Refused e) = sym none ∙ is.0 in cc)
  nothing_due result None is ends none = absurd (subst NeedsSync none is)

-- a commit that a handle had seen before is durable then
pub seen_is_durable : {Dev : Type 0} {G : Ghosts Dev} (old new : Handle Dev G) → LeavesAllDurable old new → Sees AreDurable old new
seen_is_durable old new l =
    ∥∥₁_elim l.onward.goes_on ∥∥₁_prop (λ onward.
    ∥∥₁_map {B = AreDurable (state_seen old) (state_seen new)} l.durable (λ all o e there. all o e (at-prefix (state_seen old).past.entries (viewed_state l.took).past.entries o e (grown (state_seen old) (viewed_state l.took) onward).entries there)))
