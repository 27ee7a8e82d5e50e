-- What a command makes of one thing it makes of what is seen of it, if each step does so, as long as it is good.
use Rattle.std.proofs.Common.{◌≡◌, ℕ, zero, suc, inl, inr, sym, ap, subst}
use Rattle.std.specs.Prelude.{◌≢◌, ◌⊎◌, ◌-◌, ◌^◌, List, Option}
use Rattle.base.specs.declared.names.TxId.{TxId}
use Rattle.base.specs.declared.operation.Op.{Op}
use Rattle.base.specs.declared.operation.Shape.{Shape}
use Rattle.base.specs.declared.step.Step.{Step}
use Rattle.base.specs.declared.step.Step.TheVariants as step
use Rattle.base.specs.declared.step.Reply.{Reply}
use Rattle.base.specs.declared.step.Reply.TheVariants.{More}
use Rattle.scripts.specs.PoolSteps.{Asks, CommitsOps, Finishes, MakesSteps, Then, ops_for}
use Rattle.script_lines.specs.declared.command.PoolCommand.{PoolCommand}
use Rattle.script_lines.specs.declared.command.PoolCommand.TheVariants as command

module _ {P Q : Type 0} (Makes : Step → Reply → P → P → Type 0) (Shows : Step → Reply → Q → Q → Type 0) (Good : P → Type 0) (view : P → Q)
    (by_one : (s : Step) (r : Reply) (a b : P) → Good a → Makes s r a b → Good b × Shows s r (view a) (view b)) where
  abbrev Seen : (Q → Q → Type 0) → P → P → Type 0
  Seen S a b = Good b × S (view a) (view b)

  seen_none : (a b : P) → Good a → b ≡ a → Seen (λ v w. w ≡ v) a b
  seen_none a b good is = (subst Good (sym is) good, ap view is)

  seen_steps : (count : ℕ) (a b : P) → Good a → MakesSteps Makes count a b → Seen (MakesSteps Shows count) a b
  seen_steps zero a b good is = seen_none a b good is
  seen_steps (suc count) a b good (middle, before, one) =
      let first : Seen (MakesSteps Shows count) a middle = seen_steps count a middle good before in
      let last : Seen (Shows step.SyncStep More) middle b = by_one step.SyncStep More middle b first.0 one in
      (last.0, (view middle, first.1, last.1))

  seen_last : (reply : Reply) (count : ℕ) (a b : P) → Good a → (Makes step.SyncStep reply a b × (reply ≢ More)) ⊎ ((count ≡ 2 ^ 64 - 1) × (b ≡ a))
      → Seen (λ v w. (Shows step.SyncStep reply v w × (reply ≢ More)) ⊎ ((count ≡ 2 ^ 64 - 1) × (w ≡ v))) a b
  seen_last reply count a b good (inl (one, other)) = let last : Seen (Shows step.SyncStep reply) a b = by_one step.SyncStep reply a b good one in (last.0, inl (last.1, other))
  seen_last reply count a b good (inr (all, is)) = let none : Seen (λ v w. w ≡ v) a b = seen_none a b good is in (none.0, inr (all, none.1))

  seen_finish : (reply : Reply) (a b : P) → Good a → Finishes Makes reply a b → Seen (Finishes Shows reply) a b
  seen_finish reply a b good f =
      let first : Seen (MakesSteps Shows f.count) a f.middle = seen_steps f.count a f.middle good f.steps in
      let last = seen_last reply f.count f.middle b first.0 f.last in
      (last.0, record { count = f.count; middle = view f.middle; steps = first.1; last = last.1 })

  seen_then : (first : Step) (Next : Reply → P → P → Type 0) (After : Reply → Q → Q → Type 0) → ((reply : Reply) (a b : P) → Good a → Next reply a b → Seen (After reply) a b)
      → (reply : Reply) (a b : P) → Good a → Then Makes first Next reply a b → Seen (Then Shows first After reply) a b
  seen_then first Next After next reply a b good (inl (one, refused)) = let made : Seen (Shows first reply) a b = by_one first reply a b good one in (made.0, inl (made.1, refused))
  seen_then first Next After next reply a b good (inr (given, middle, one, passed, rest)) =
      let made : Seen (Shows first given) a middle = by_one first given a middle good one in
      let more : Seen (After reply) middle b = next reply middle b made.0 rest in
      (more.0, inr (given, view middle, made.1, passed, more.1))

  seen_commit : (tx : TxId) (ops : List Op) (reply : Reply) (a b : P) → Good a → CommitsOps Makes tx ops reply a b → Seen (CommitsOps Shows tx ops reply) a b
  seen_commit tx ops reply a b good (inl one) = let made : Seen (Shows (step.Commit tx ops) reply) a b = by_one (step.Commit tx ops) reply a b good one in (made.0, inl made.1)
  seen_commit tx ops reply a b good (inr none) = let still : Seen (λ v w. w ≡ v) a b = seen_none a b good none.1 in (still.0, inr (none.0, still.1))

  -- the plans of the one are those of the other
  pub seen_command : (plan_in : TxId → P → Option (List Shape)) (plan_out : TxId → Q → Option (List Shape)) (asked : PoolCommand) (moment : ℕ) (reply : Reply) (a b : P) → Good a
      → ((tx : TxId) → plan_in tx a ≡ plan_out tx (view a)) → Asks Makes plan_in asked moment reply a b → Seen (Asks Shows plan_out asked moment reply) a b
  seen_command plan_in plan_out (command.Commit tx contents) moment reply a b good plans made =
      subst (λ (plan : Option (List Shape)). Seen (CommitsOps Shows tx (ops_for contents.items plan) reply) a b) (plans tx) (seen_commit tx (ops_for contents.items (plan_in tx a)) reply a b good made)
  seen_command plan_in plan_out command.Start moment reply a b good plans made = by_one (step.StartSync moment) reply a b good made
  seen_command plan_in plan_out command.Finish moment reply a b good plans made = seen_finish reply a b good made
  seen_command plan_in plan_out command.Sync moment reply a b good plans made =
      let Start = Then Makes (step.StartSync moment) (Finishes Makes) in
      let Starts = Then Shows (step.StartSync moment) (Finishes Shows) in
      seen_then step.CloseGroup (Then Makes step.MarkQuiesced Start) (Then Shows step.MarkQuiesced Starts)
      (seen_then step.MarkQuiesced Start Starts (seen_then (step.StartSync moment) (Finishes Makes) (Finishes Shows) seen_finish)) reply a b good made
  seen_command plan_in plan_out (command.Step s) moment reply a b good plans made = by_one s reply a b good made
