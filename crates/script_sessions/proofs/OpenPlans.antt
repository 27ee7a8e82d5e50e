-- The plans that a session keeps are those of the transactions that are open, after each command as before it.
use Rattle.std.proofs.Common.{◌≡◌, ◌∙◌, ◌⊎◌, inl, inr, ℕ, Bool, true, false, List, [], ◌∷◌, ◌++◌, refl, ap, sym, subst}
use Rattle.std.specs.Prelude.{◌==◌, Option, Some, None, Result, Ok, Err}
use Rattle.std.specs.List.{list_all}
use Rattle.std.specs.Option.{option_map}
use Rattle.std.proofs.lemmas.Bool.{eqb-true, false≢true}
use Rattle.base.specs.declared.error.PoolError.{PoolError}
use Rattle.base.specs.declared.names.Owner.{Owner}
use Rattle.base.specs.declared.names.TxId.{TxId}
use Rattle.base.specs.declared.operation.Op.{Op}
use Rattle.base.specs.declared.operation.Shape.{Shape}
use Rattle.base.specs.declared.step.Step as declared_step
use Rattle.base.specs.declared.step.Step.TheVariants as step
use Rattle.base.specs.declared.step.Reply as declared_reply
use Rattle.base.specs.declared.step.Reply.TheVariants as reply
use Rattle.base.specs.formats.Records.{is_content_allowed}
use Rattle.base.specs.history.Contents.{Contents}
use Rattle.base.specs.history.History.{apply_all}
use Rattle.base.specs.steps.Groups.{Admission}
use Rattle.base.specs.steps.Refusals as refusal
use Rattle.base.specs.steps.Refusals.{transaction_of}
use Rattle.base.specs.steps.Runs.{receipt_reply, reply_of}
use Rattle.base.specs.steps.Shown.{SyncPlan}
use Rattle.base.specs.steps.Steps as steps
use Rattle.base.specs.steps.Steps.{Answers, State, SyncProgress, WantsMemory, next_admission, transactions_without}
use Rattle.base.specs.steps.Steps.SyncProgress.{More, Synced}
use Rattle.pool_core.specs.StepReplies.{IsStep}
use Rattle.script_sessions.proofs.Named.{first_of, value-added, value-without, value-without_other, value_at, value_if, without}
use Rattle.script_sessions.specs.Plans.{plan_named, plans_after, plans_without}
use Rattle.script_sessions.specs.declared.begun_plans.BegunPlan.{BegunPlan}
use Rattle.script_sessions.specs.declared.begun_plans.PlanChange.TheVariants as change

-- the open transactions of two states are the same
abbrev pub HasSame : State → State → Type 0
HasSame old new = new.shown.transactions ≡ old.shown.transactions

-- the plans are those of the open transactions of a state
abbrev pub ArePlansIn : List BegunPlan → State → Type 0
ArePlansIn plans s = (tx : TxId) → plan_named tx plans ≡ option_map (λ (a : Admission). a.plan) (transaction_of tx.0 s.shown)

abbrev begun_name : BegunPlan → ℕ
begun_name b = b.tx.0

abbrev begun_plan : BegunPlan → List Shape
begun_plan b = b.plan

abbrev admitted_name : Admission → ℕ
admitted_name a = a.tx

abbrev admitted_plan : Admission → List Shape
admitted_plan a = a.plan

module _ (old new : State) where
  same_open : new ≡ old → HasSame old new
  same_open is = ap (λ (x : State). x.shown.transactions) is

  -- it is so if a step is refused by its tests, does what it is to do, or is refused otherwise
  by_answer : {A : Type 0} (o : Option PoolError) (answer : Result A PoolError) (does : A → Type 0) (own : PoolError → Type 0)
      → ((a : A) → does a → HasSame old new) → ((e : PoolError) → own e → HasSame old new) → Answers o answer old new does own → HasSame old new
  by_answer (Some e) answer does own done fails h = same_open h.1
  by_answer None (Ok a) does own done fails h = done a h
  by_answer None (Err e) does own done fails h = fails e h

  wants : (e : PoolError) → WantsMemory old new e → HasSame old new
  wants e w = same_open w.1

-- a begin, a commit and an abort change the open transactions
abbrev pub is_of_transactions : declared_step.Step → Bool
is_of_transactions (step.Begin owner plan) = true
is_of_transactions (step.Commit tx ops) = true
is_of_transactions (step.Abort tx) = true
is_of_transactions s = false

-- and no other step does
pub other_stays : (s : declared_step.Step) (r : declared_reply.Reply) (old new : State) → is_of_transactions s ≡ false → IsStep s r old new → HasSame old new
other_stays (step.Lock owner n range mode) r old new other (answer, is, h) = by_answer old new _ answer _ _ (λ id d. ap (λ (x : State). x.shown.transactions) d.1) (wants old new) h
other_stays (step.LockAppend owner n) r old new other (answer, is, h) = by_answer old new _ answer _ _ (λ a d. ap (λ (x : State). x.shown.transactions) d.1) (wants old new) h
other_stays (step.Unlock owner id) r old new other (answer, is, h) = by_answer old new _ answer _ _ (λ a d. ap (λ (x : State). x.shown.transactions) d) (λ e never. absurd never) h
other_stays (step.Read owner n range) r old new other (answer, is, h) = by_answer old new _ answer _ _ (λ bytes d. same_open old new d.1) (λ e own. same_open old new own.1) h
other_stays (step.Length n) r old new other (answer, is, h) = by_answer old new _ answer _ _ (λ length d. same_open old new d.1) (λ e never. absurd never) h
other_stays step.Digest r old new other (answer, is, h) = by_answer old new _ answer _ _ (λ digest d. same_open old new d.1) (λ e own. same_open old new own.1) h
other_stays step.Name r old new other (answer, is, h) = by_answer old new None answer _ _ (λ name (d : steps.Name name old new). same_open old new d.1) (λ e never. absurd never) h
other_stays step.Status r old new other (answer, is, h) = by_answer old new None answer _ _ (λ status (d : steps.Status status old new). same_open old new d.1) (λ e never. absurd never) h
other_stays step.CloseGroup r old new other (answer, is, h) = by_answer old new _ answer _ _ (λ group d. ap (λ (x : State). x.shown.transactions) d.1) (λ e never. absurd never) h
other_stays step.MarkQuiesced r old new other (answer, is, h) = by_answer old new _ answer _ _ (λ group d. ap (λ (x : State). x.shown.transactions) d.1) (λ e never. absurd never) h
other_stays (step.StartSync moment) r old new other (answer, is, h) = by_answer old new _ answer _ _ (λ group d. ap (λ (x : State). x.shown.transactions) d.4) (λ e own. same_open old new own.1) h
other_stays step.SyncStep r old new other (answer, is, h) = by_answer old new _ answer _ _ progress (λ e d. ap (λ (x : State). x.shown.transactions) d.1) h
  where
    progress : (p : SyncProgress) → (group : ℕ) × (plan : SyncPlan) × (old.shown.line.syncing ≡ Some group) × (old.shown.sync ≡ Some plan) × steps.IsProgress group p plan old new → HasSame old new
    progress More d = ap (λ (x : State). x.shown.transactions) d.4.1
    progress (Synced g) d = ap (λ (x : State). x.shown.transactions) d.4.2
other_stays step.LogWrite r old new other (answer, is, h) =
    by_answer old new _ answer _ _ (λ count d. ap (λ (x : State). x.shown.transactions) d.4)
    (λ e own. elim own as (λ _. HasSame old new) [
      | inl memory ↦ wants old new e memory
      | inr wrote ↦ ap (λ (x : State). x.shown.transactions) wrote.1.3
    ]) h
other_stays step.LogFlush r old new other (answer, is, h) =
    by_answer old new _ answer _ _ (λ u d. ap (λ (x : State). x.shown.transactions) d) (λ e own. ap (λ (x : State). x.shown.transactions) own.1) h
other_stays (step.Durable receipt) r old new other (answer, is, h) =
    by_answer old new None answer _ _ (λ durable (d : steps.Durable receipt.ordinal.0 receipt.group.0 durable old new). same_open old new d.1) (λ e never. absurd never) h
other_stays (step.Begin owner plan) r old new other h = absurd (false≢true (sym other))
other_stays (step.Commit tx ops) r old new other h = absurd (false≢true (sym other))
other_stays (step.Abort tx) r old new other h = absurd (false≢true (sym other))

module _ (plans : List BegunPlan) (old new : State) (are : ArePlansIn plans old) where
  pub kept_plans : HasSame old new → ArePlansIn plans new
  kept_plans same tx = are tx ∙ ap (λ (ts : List Admission). value_at admitted_name admitted_plan tx.0 ts) (sym same)

  -- the plan of an admission under its name is added
  added_plan : (name : ℕ) (a : Admission) → name ≡ a.tx → new.shown.transactions ≡ old.shown.transactions ++ a ∷ [] → ArePlansIn (plans ++ record { tx = record { 0 = name }; plan = a.plan } ∷ []) new
  added_plan name a named more tx =
      value-added begun_name begun_plan tx.0 plans (record { tx = record { 0 = name }; plan = a.plan })
      ∙ ap (λ (o : Option (List Shape)). first_of o (value_if begun_name begun_plan (name == tx.0) (record { tx = record { 0 = name }; plan = a.plan }))) (are tx)
      ∙ ap (λ (n : ℕ). first_of (value_at admitted_name admitted_plan tx.0 old.shown.transactions) (value_if admitted_name admitted_plan (n == tx.0) a)) named
      ∙ sym (value-added admitted_name admitted_plan tx.0 old.shown.transactions a)
      ∙ ap (λ (ts : List Admission). value_at admitted_name admitted_plan tx.0 ts) (sym more)

  -- those of a name are taken out
  ended_plan : (u : TxId) → new.shown.transactions ≡ transactions_without u.0 old.shown.transactions → ArePlansIn (plans_without u plans) new
  ended_plan u less tx = go (tx.0 == u.0) refl ∙ ap (λ (ts : List Admission). value_at admitted_name admitted_plan tx.0 ts) (sym less)
    where
      ts : List Admission
      ts = old.shown.transactions

      go : (b : Bool) → (tx.0 == u.0) ≡ b → plan_named tx (plans_without u plans) ≡ value_at admitted_name admitted_plan tx.0 (without admitted_name admitted_plan u.0 ts)
      go true is =
          let same : tx.0 ≡ u.0 = eqb-true tx.0 u.0 is in
          ap (λ (n : ℕ). value_at begun_name begun_plan n (without begun_name begun_plan u.0 plans)) same
          ∙ value-without begun_name begun_plan u.0 plans
          ∙ sym (value-without admitted_name admitted_plan u.0 ts)
          ∙ ap (λ (n : ℕ). value_at admitted_name admitted_plan n (without admitted_name admitted_plan u.0 ts)) (sym same)
      go false is = value-without_other begun_name begun_plan u.0 tx.0 plans is ∙ are tx ∙ sym (value-without_other admitted_name admitted_plan u.0 tx.0 ts is)

  pub begin_plans : (owner : Owner) (plan : List Shape) (r : declared_reply.Reply) → IsStep (step.Begin owner plan) r old new → ArePlansIn (plans_after (change.Begins plan) r plans) new
  begin_plans owner plan r (answer, is, h) = subst (λ (q : declared_reply.Reply). ArePlansIn (plans_after (change.Begins plan) q plans) new) (sym is) (go (refusal.begin_refusal owner.0 plan old.shown) answer h)
    where
      go : (o : Option PoolError) (a : Result (ℕ × ℕ) PoolError)
          → Answers o a old new (λ (x : ℕ × ℕ). (x ≡ (old.shown.next_tx, old.shown.line.open_group)) × (new ≡ steps.state_after_charged_admission (next_admission owner.0 plan old.shown) old)) (WantsMemory old new)
          → ArePlansIn (plans_after (change.Begins plan) (reply_of (λ (x : ℕ × ℕ). reply.Began (record { 0 = x.0 }) (record { 0 = x.1 })) a) plans) new
      go (Some e) (Ok a) h = absurd (let no_way : Ok a ≡ Err e = h.0 in cc)
      go (Some e) (Err f) h = kept_plans (same_open old new h.1)
      go None (Err e) w = kept_plans (same_open old new w.1)
      go None (Ok a) d = added_plan a.0 (next_admission owner.0 plan old.shown) (ap (λ (x : ℕ × ℕ). x.0) d.0) (ap (λ (x : State). x.shown.transactions) d.1)

  pub commit_plans : (tx : TxId) (ops : List Op) (r : declared_reply.Reply) → IsStep (step.Commit tx ops) r old new → ArePlansIn (plans_after (change.Ends tx) r plans) new
  commit_plans tx ops r (answer, is, h) = subst (λ (q : declared_reply.Reply). ArePlansIn (plans_after (change.Ends tx) q plans) new) (sym is) (go (refusal.commit_refusal tx.0 ops old.shown) answer h)
    where
      go : (o : Option PoolError) (a : Result (ℕ × ℕ) PoolError)
          → Answers o a old new
          (λ (receipt : ℕ × ℕ). (x : Admission) × (contents : Contents)
          × (transaction_of tx.0 old.shown ≡ Some x) × (apply_all ops old.shown.contents ≡ Ok contents)
          × (list_all is_content_allowed ops ≡ true) × (receipt ≡ (old.shown.next_ordinal, x.group)) × (new ≡ steps.state_after_commit tx.0 x.group ops contents old)) (WantsMemory old new)
          → ArePlansIn (plans_after (change.Ends tx) (reply_of receipt_reply a) plans) new
      go (Some e) (Ok a) h = absurd (let no_way : Ok a ≡ Err e = h.0 in cc)
      go (Some e) (Err f) h = kept_plans (same_open old new h.1)
      go None (Err e) w = kept_plans (same_open old new w.1)
      go None (Ok a) d = ended_plan tx (ap (λ (x : State). x.shown.transactions) d.6)

  pub abort_plans : (tx : TxId) (r : declared_reply.Reply) → IsStep (step.Abort tx) r old new → ArePlansIn (plans_after (change.Ends tx) r plans) new
  abort_plans tx r (answer, is, h) = subst (λ (q : declared_reply.Reply). ArePlansIn (plans_after (change.Ends tx) q plans) new) (sym is) (go (refusal.abort_refusal tx.0 old.shown) answer h)
    where
      go : (o : Option PoolError) (a : Result (Unit {0}) PoolError)
          → Answers o a old new (λ (u : Unit {0}). (x : Admission) × (transaction_of tx.0 old.shown ≡ Some x) × (new ≡ steps.state_after_abort tx.0 x old)) (λ e. ⊥)
          → ArePlansIn (plans_after (change.Ends tx) (reply_of (λ (u : Unit {0}). reply.Done) a) plans) new
      go (Some e) (Ok a) h = absurd (let no_way : Ok a ≡ Err e = h.0 in cc)
      go (Some e) (Err f) h = kept_plans (same_open old new h.1)
      go None (Err e) never = absurd never
      go None (Ok a) d = ended_plan tx (ap (λ (x : State). x.shown.transactions) d.2)
