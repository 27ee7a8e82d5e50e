-- What each step of a command keeps, the command keeps.
use Rattle.std.proofs.Common.{◌≡◌, ℕ, zero, suc, inl, inr, sym, subst}
use Rattle.std.specs.Prelude.{◌≢◌, ◌⊎◌, ◌-◌, ◌^◌, List, Option}
use Rattle.base.specs.declared.names.TxId.{TxId}
use Rattle.base.specs.declared.operation.Op.{Op}
use Rattle.base.specs.declared.operation.Shape.{Shape}
use Rattle.base.specs.declared.step.Step.{Step}
use Rattle.base.specs.declared.step.Step.TheVariants as step
use Rattle.base.specs.declared.step.Reply.{Reply}
use Rattle.base.specs.declared.step.Reply.TheVariants.{More}
use Rattle.scripts.specs.PoolSteps.{Asks, CommitsOps, Finishes, MakesSteps, Syncs, Then}
use Rattle.script_lines.specs.declared.command.PoolCommand.{PoolCommand}
use Rattle.script_lines.specs.declared.command.PoolCommand.TheVariants as command

-- what each of some steps keeps, and goes on, such steps keep
module _ {P : Type 0} (Makes : Step → Reply → P → P → Type 0) (R : P → P → Type 0) (same : (a : P) → R a a) (onward : (a b c : P) → R a b → R b c → R a c)
    (IsSome : Step → Type 0) (by_one : (s : Step) (r : Reply) (a b : P) → IsSome s → Makes s r a b → R a b) where
  by_none : (a b : P) → b ≡ a → R a b
  by_none a b is = subst (R a) (sym is) (same a)

  by_steps : IsSome step.SyncStep → (count : ℕ) (a b : P) → MakesSteps Makes count a b → R a b
  by_steps it zero a b is = by_none a b is
  by_steps it (suc count) a b (middle, before, one) = onward a middle b (by_steps it count a middle before) (by_one step.SyncStep More middle b it one)

  by_last : IsSome step.SyncStep → (reply : Reply) (count : ℕ) (a b : P) → (Makes step.SyncStep reply a b × (reply ≢ More)) ⊎ ((count ≡ 2 ^ 64 - 1) × (b ≡ a)) → R a b
  by_last it reply count a b (inl (one, other)) = by_one step.SyncStep reply a b it one
  by_last it reply count a b (inr (all, is)) = by_none a b is

  pub by_finish : IsSome step.SyncStep → (reply : Reply) (a b : P) → Finishes Makes reply a b → R a b
  by_finish it reply a b f = onward a f.middle b (by_steps it f.count a f.middle f.steps) (by_last it reply f.count f.middle b f.last)

  by_then : (first : Step) → IsSome first → (Next : Reply → P → P → Type 0) → ((reply : Reply) (a b : P) → Next reply a b → R a b) → (reply : Reply) (a b : P) → Then Makes first Next reply a b → R a b
  by_then first it Next next reply a b (inl (one, refused)) = by_one first reply a b it one
  by_then first it Next next reply a b (inr (given, middle, one, passed, rest)) = onward a middle b (by_one first given a middle it one) (next reply middle b rest)

  pub by_sync : IsSome step.CloseGroup → IsSome step.MarkQuiesced → (moment : ℕ) → IsSome (step.StartSync moment) → IsSome step.SyncStep → (reply : Reply) (a b : P) → Syncs Makes moment reply a b → R a b
  by_sync closes marks moment starts it = by_then step.CloseGroup closes _ (by_then step.MarkQuiesced marks _ (by_then (step.StartSync moment) starts (Finishes Makes) (by_finish it)))

  by_commit : (tx : TxId) (ops : List Op) → IsSome (step.Commit tx ops) → (reply : Reply) (a b : P) → CommitsOps Makes tx ops reply a b → R a b
  by_commit tx ops it reply a b (inl one) = by_one (step.Commit tx ops) reply a b it one
  by_commit tx ops it reply a b (inr none) = by_none a b none.1

  -- and so does a command
  pub by_command : ((s : Step) → IsSome s) → (plan_in : TxId → P → Option (List Shape)) (asked : PoolCommand) (moment : ℕ) (reply : Reply) (a b : P) → Asks Makes plan_in asked moment reply a b → R a b
  by_command all plan_in (command.Commit tx contents) moment reply a b made = by_commit tx _ (all _) reply a b made
  by_command all plan_in command.Start moment reply a b made = by_one (step.StartSync moment) reply a b (all _) made
  by_command all plan_in command.Finish moment reply a b made = by_finish (all _) reply a b made
  by_command all plan_in command.Sync moment reply a b made = by_sync (all _) (all _) moment (all _) (all _) reply a b made
  by_command all plan_in (command.Step s) moment reply a b made = by_one s reply a b (all s) made
