-- The steps of a pool that a command makes. What a step with its reply makes of the pool is a relation, and so is what
-- a command makes of it.
use Rattle.std.specs.Prelude.{ℕ, zero, suc, ◌≡◌, ◌≢◌, ◌⊎◌, ◌-◌, ◌^◌, Bool, true, false, List, [], Option, option_and_then, unwrap_or}
use Rattle.base.specs.declared.error.PoolError.TheVariants.{NoMemory}
use Rattle.base.specs.declared.names.TxId.{TxId}
use Rattle.base.specs.declared.operation.Op.{Op}
use Rattle.base.specs.declared.operation.Shape.{Shape}
use Rattle.base.specs.declared.step.Step.{Step}
use Rattle.base.specs.declared.step.Step.TheVariants as step
use Rattle.base.specs.declared.step.Reply.{Reply}
use Rattle.base.specs.declared.step.Reply.TheVariants.{More, Refused}
use Rattle.scripts.specs.Fillings.{ops_of}
use Rattle.script_lines.specs.declared.command.PoolCommand.{PoolCommand}
use Rattle.script_lines.specs.declared.command.PoolCommand.TheVariants as command

abbrev pub is_refused : Reply → Bool
is_refused (Refused e) = true
is_refused reply = false

-- the operations of a plan: its shapes with these bytes in order, and none where they are more or fewer than the plan
-- takes, or there is no plan
abbrev pub ops_for : List (List ℕ) → Option (List Shape) → List Op
ops_for contents plan = unwrap_or (option_and_then (λ (shapes : List Shape). ops_of shapes contents) plan) []

module _ {P : Type 0} where
  -- for want of memory no step is made, and the pool is as it was
  abbrev pub MakesNone : Reply → P → P → Type 0
  MakesNone reply old new = (reply ≡ Refused NoMemory) × (new ≡ old)

module _ {P : Type 0} (Makes : Step → Reply → P → P → Type 0) where
  -- so many steps of a sync, each answered that there are more
  abbrev pub MakesSteps : ℕ → P → P → Type 0
  MakesSteps zero old new = new ≡ old
  MakesSteps (suc count) old new = (middle : P) × MakesSteps count old middle × Makes step.SyncStep More middle new

  -- The steps of a sync up to the first that is answered otherwise, with its reply. The most that are made are 2^64 -
  -- 1.
  pub record Finishes (reply : Reply) (old new : P) : Type 0 where
    pub count : ℕ
    pub middle : P
    pub steps : MakesSteps count old middle
    pub last : (Makes step.SyncStep reply middle new × (reply ≢ More)) ⊎ ((count ≡ 2 ^ 64 - 1) × (new ≡ middle))

  -- a step, and this after it unless it is refused
  abbrev pub Then : Step → (Reply → P → P → Type 0) → Reply → P → P → Type 0
  Then first next reply old new = (Makes first reply old new × (is_refused reply ≡ true))
      ⊎ ((given : Reply) × (middle : P) × Makes first given old middle × (is_refused given ≡ false) × next reply middle new)

  -- a sync: the group is closed, marked as quiesced, its sync is started with this moment, and finished
  abbrev pub Syncs : ℕ → Reply → P → P → Type 0
  Syncs moment = Then step.CloseGroup (Then step.MarkQuiesced (Then (step.StartSync moment) Finishes))

  -- a commit of these operations, where there is memory for them
  abbrev pub CommitsOps : TxId → List Op → Reply → P → P → Type 0
  CommitsOps tx ops reply old new = Makes (step.Commit tx ops) reply old new ⊎ MakesNone reply old new

  -- what a command asks of the pool, which has these plans of its open transactions; with the moment of its syncs
  abbrev pub Asks : (TxId → P → Option (List Shape)) → PoolCommand → ℕ → Reply → P → P → Type 0
  Asks plan_in (command.Commit tx contents) moment reply old new = CommitsOps tx (ops_for contents.items (plan_in tx old)) reply old new
  Asks plan_in command.Start moment reply old new = Makes (step.StartSync moment) reply old new
  Asks plan_in command.Finish moment reply old new = Finishes reply old new
  Asks plan_in command.Sync moment reply old new = Syncs moment reply old new
  Asks plan_in (command.Step s) moment reply old new = Makes s reply old new
