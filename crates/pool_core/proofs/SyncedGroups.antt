-- A sync of the open group that returns a group has synced it, and a receipt of a synced group is durable.
use Rattle.std.proofs.Common.{◌≡◌, ◌∙◌, ℕ, Bool, true, ap, inl, inr, sym}
use Rattle.std.proofs.Math.Nat.{le_refl}
use Rattle.std.proofs.lemmas.Bool.{false≢true, le-leb}
use Rattle.std.specs.Prelude.{◌||◌, Err, None, Ok, Option, Result, Some, nat_le}
use Rattle.base.specs.declared.error.PoolError.{PoolError}
use Rattle.base.specs.declared.names.Group.{Group}
use Rattle.base.specs.declared.step.Reply.TheVariants as reply
use Rattle.base.specs.steps.Logs.{is_flushed_in}
use Rattle.base.specs.steps.Refusals.{sync_step_refusal}
use Rattle.base.specs.steps.Runs.{progress_reply, reply_of}
use Rattle.base.specs.steps.Shown.{Shown, SyncPlan, is_durable}
use Rattle.base.specs.steps.Steps as steps
use Rattle.base.specs.steps.Steps.{State, SyncProgress}
use Rattle.base.specs.steps.Steps.SyncProgress.{More, Synced}
use Rattle.device_model.specs.declared.device.SectorDevice.{Ghosts}
use Rattle.pool_core.specs.declared.state.PoolState.{PoolState}
use Rattle.pool_core.specs.GroupSyncs.{EndsSync, SyncsClosed, SyncsOpen}
use Rattle.pool_core.specs.States.{shown}
use Rattle.pool_tables.proofs.OfNoDevice.{some_past}

-- the last step of a sync leaves its group synced
synced_line : (g : Group) (answer : Result SyncProgress PoolError) (r : Option PoolError) (old new : State) (own : PoolError → Type 0) → reply.Synced g ≡ reply_of progress_reply answer
    → steps.Answers r answer old new (λ progress. (group : ℕ) × (plan : SyncPlan) × (old.shown.line.syncing ≡ Some group) × (old.shown.sync ≡ Some plan) × steps.IsProgress group progress plan old new)
    own → new.shown.line.synced ≡ g.0
synced_line g (Ok (Synced n)) None old new own is (group, plan, line, sync, (one, named, same)) =
    let same_group : g ≡ record { 0 = n } = cc in
    ap (λ (s : State). s.shown.line.synced) same ∙ sym named ∙ ap (λ (x : Group). x.0) (sym same_group)
synced_line g (Ok More) r old new own is made = absurd (let no_way : reply.Synced g ≡ reply.More = is in cc)
synced_line g (Err e) r old new own is made = absurd (let no_way : reply.Synced g ≡ reply.Refused e = is in cc)
synced_line g (Ok (Synced n)) (Some e) old new own is made = absurd (let no_way : Ok (Synced n) ≡ Err e = made.0 in cc)

module _ {Dev : Type 0} {G : Ghosts Dev} (group : Group) (new : PoolState Dev G) where
  ended_synced : (old : PoolState Dev G) → EndsSync (Ok group) old new → (shown new).line.synced ≡ group.0
  ended_synced old ends =
      let replied = (ends.last.replied (some_past (shown ends.middle)) (λ rests. absurd (false≢true rests))).1 in
      synced_line group replied.0 (sync_step_refusal (shown ends.middle)) _ _ _ replied.1 replied.2

  closed_synced : (moment : ℕ) (old : PoolState Dev G) → SyncsClosed moment (Ok group) old new → (shown new).line.synced ≡ group.0
  closed_synced moment old (marked, middle, mark, inl (e, start, is)) = absurd (let no_way : Ok group ≡ Err e = is in cc)
  closed_synced moment old (marked, middle, mark, inr (a, started, start, ends)) = ended_synced started ends

  pub open_synced : (moment : ℕ) (old : PoolState Dev G) → SyncsOpen moment (Ok group) old new → (shown new).line.synced ≡ group.0
  open_synced moment old (inl (e, made, is)) = absurd (let no_way : Ok group ≡ Err e = is in cc)
  open_synced moment old (inr (a, ended, made, inl (e, more, is))) = absurd (let no_way : Ok group ≡ Err e = is in cc)
  open_synced moment old (inr (a, ended, made, inr (b, synced, more, inl (e, close, is)))) = absurd (let no_way : Ok group ≡ Err e = is in cc)
  open_synced moment old (inr (a, ended, made, inr (b, synced, more, inr (c, closed, close, rest)))) = closed_synced moment closed rest

pub synced_is_durable : (s : Shown) (ordinal group : ℕ) → s.line.synced ≡ group → is_durable s ordinal group ≡ true
synced_is_durable s ordinal group synced =
    let flushed : Bool = is_flushed_in s.log (record { ordinal = ordinal; group = group }) in
    ap (λ (n : ℕ). nat_le group n || flushed) synced ∙ ap (λ (b : Bool). b || flushed) (le-leb group group (le_refl group))
