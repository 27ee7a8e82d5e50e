-- What has been committed is durable once the pool is synced, and what is durable is acknowledged.
use Rattle.std.proofs.Common.{◌≡◌, ◌≤◌, ◌||◌, [], ℕ, List, Ok, Err, ap, arith, inl, inr, subst, true, ◌∙◌}
use Rattle.std.specs.Prelude.{Bool, IsTrue, Result, Some, slice_get}
use Rattle.std.proofs.Math.Logic.{∥∥₁_elim, ∥∥₁_map, ∥∥₁_prop}
use Rattle.std.proofs.lemmas.Bool.{le-leb}
use Rattle.base.specs.declared.error.PoolError.{PoolError}
use Rattle.base.specs.declared.names.Group.{Group}
use Rattle.base.specs.history.History.{Entry}
use Rattle.base.specs.history.Past.{Past}
use Rattle.base.specs.steps.Locks.{is_in}
use Rattle.base.specs.steps.Logs.{is_flushed_in}
use Rattle.base.specs.steps.Seen.{IsKnownDurable}
use Rattle.base.specs.steps.Steps.{State}
use Rattle.base.specs.steps.Tables.{AreTablesExplained, GoesOn}
use Rattle.base.proofs.steps.KeptTables.{runs_keep_tables}
use Rattle.base.proofs.steps.SeenGroups.{groups_go_up}
use Rattle.device_model.specs.declared.device.SectorDevice.{Ghosts}
use Rattle.pool_threads.specs.declared.handle.Handle.{Handle}
use Rattle.pool_threads.specs.Answers.{state_seen}
use Rattle.pool_threads.specs.Handles.{view_seen}
use Rattle.pool_threads.specs.Views.{GrowsTo, SeenPool, viewed_state}
use Rattle.pool_threads.specs.Waits.{AreDurable, SyncsPool, SyncsUpTo, result_of}
use Rattle.running_pools.proofs.Adds.{Adds, same_entries}

-- a state that its past explains, and one that it leads to
abbrev pub IsSound : SeenPool → Type 0
IsSound v = ∥ AreTablesExplained (viewed_state v).shown (viewed_state v).past ∥₁

pub sound_on : (keeps : Type 0) (v w : SeenPool) → GrowsTo keeps v w → IsSound v → IsSound w
sound_on keeps v w onward sound =
    ∥∥₁_elim onward.goes_on ∥∥₁_prop (λ run.
    ∥∥₁_map {B = AreTablesExplained (viewed_state w).shown (viewed_state w).past} sound (λ x. runs_keep_tables ⊥ run.0 run.1 (viewed_state v) (viewed_state w) run.2 x))

-- all that is there is durable once the group is synced that was open later
durable_by_sync : (s looked after : State) → AreTablesExplained s.shown s.past → GoesOn s looked → looked.shown.line.open_group ≤ after.shown.line.synced → AreDurable s after
durable_by_sync s looked after x onward synced = λ o e there.
    let up = (groups_go_up s looked x onward).1 in
    let a = x.exact.groups.members.committed o e there in
    let known : a.0.group ≤ s.shown.line.open_group = x.exact.groups.members.known e.tx a.0 a.1 in
    let same : a.0.group ≡ e.group = a.2 in
    inl (let low : e.group ≤ after.shown.line.synced = omega (arith, up, known, same, synced) in low)

-- what was committed before a sync of the pool is durable after it
pub durable_after : {Dev : Type 0} {G : Ghosts Dev} (group : Group) (old new : Handle Dev G) → IsSound (view_seen old) → SyncsPool (Ok group) old new → ∥ AreDurable (state_seen old) (state_seen new) ∥₁
durable_after group old new sound s = go s.result s.answered s.syncs
  where
    go : (q : Result (Unit {0}) PoolError) → Ok group ≡ result_of s.group q → SyncsUpTo s.group q s.looked new → ∥ AreDurable (state_seen old) (state_seen new) ∥₁
    go (Err e) is u = absurd (let no_way : Ok group ≡ Err e = is in cc)
    go (Ok tt) is u =
        ∥∥₁_elim s.looks.onward.goes_on ∥∥₁_prop (λ onward.
        ∥∥₁_map {B = AreDurable (state_seen old) (state_seen new)} sound (λ x.
        durable_by_sync (state_seen old) (state_seen s.looked) (state_seen new) x onward (let synced : (state_seen s.looked).shown.line.open_group ≤ (state_seen new).shown.line.synced = (let is_open = s.open_then in let up = u.made.made.1 in omega (arith, is_open, up)) in synced)))

-- what is known to be durable is acknowledged
pub acknowledged_now : (ordinal : ℕ) (e : Entry) (s : State) → AreTablesExplained s.shown s.past → slice_get s.past.entries ordinal ≡ Some e → IsKnownDurable ordinal e.group s → is_in ordinal s.past.acknowledged ≡ true
acknowledged_now ordinal e s x at (inl low) =
    x.exact.log.acknowledged ordinal e at ∙ ap (λ (b : Bool). b || is_flushed_in s.shown.log (record { ordinal = ordinal; group = e.group })) (le-leb e.group s.shown.line.synced low)
acknowledged_now ordinal e s x at (inr (f, there, same, is)) = is

-- each entry of a past is acknowledged
abbrev pub AllAcknowledged : Past → Type 0
AllAcknowledged past = (ordinal : ℕ) (e : Entry) → slice_get past.entries ordinal ≡ Some e → is_in ordinal past.acknowledged ≡ true

-- so it is once all entries are durable, and none was added since
pub all_acknowledged : (old new : State) → AreTablesExplained new.shown new.past → Adds [] old.past new.past → AreDurable old new → AllAcknowledged new.past
all_acknowledged old new x adds durable ordinal e at =
    acknowledged_now ordinal e new x at (durable ordinal e (subst (λ (l : List Entry). slice_get l ordinal ≡ Some e) (same_entries old.past new.past adds) at))
