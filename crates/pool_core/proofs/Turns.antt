-- A step of a pool on its device leads from a past that explains it to the past after the step.
use Rattle.std.proofs.Common.{◌≡◌, false, [], subst}
use Rattle.base.specs.declared.step.Step as declared_step
use Rattle.base.specs.declared.step.Reply as declared_reply
use Rattle.base.specs.steps.Tables.{AreTablesExplained}
use Rattle.base.specs.history.Past.{Past}
use Rattle.base.specs.kept.Stored.{IsHeld}
use Rattle.base.proofs.steps.Additions.{told_past}
use Rattle.base.proofs.steps.KeptTables.{steps_keep_tables}
use Rattle.pool_tables.specs.Told.{Leads, ShownPool, held_with, state_with}
use Rattle.pool_core.specs.Holds.{IsStepOver, StepsOver}
use Rattle.base.specs.steps.Runs.{asks_device}
use Rattle.pool_core.specs.StepReplies.{IsStep, StepReplies}
use Rattle.pool_core.specs.Turns.{TurnsTo, held_after, turned_state}
use Rattle.pool_core.proofs.HeldSteps.{leads_keep}
use Rattle.pool_core.proofs.StepsOver.{any_bytes}

module _ (keeps : Type 0) (s : declared_step.Step) (r : declared_reply.Reply) (old new : ShownPool) where
  -- the later past of a step is the one after it
  pub turns : StepReplies s r old.shown new.shown → (keeps → StepsOver s r old new) → (keeps → Leads r old new) → (past : Past) → TurnsTo keeps s r old new past
  turns replies over leads past = record {
    step = stepped;
    explained = λ x. steps_keep_tables ⊥ [] s r (state_with old past) (turned_state s r old new past) (stepped x) x;
    over = stepped_over;
    held = λ keep x. leads_keep s old new past (turned_state s r old new past).past x r (stepped_over keep x) (leads keep);
  }
    where
      stepped : AreTablesExplained old.shown past → IsStep s r (state_with old past) (turned_state s r old new past)
      stepped x =
          let one = replies past (λ starts. x) in
          let is = told_past ⊥ [] s r (state_with old past) (state_with new one.0) one.1 in
          subst (λ (later : Past). IsStep s r (state_with old past) (state_with new later)) is one.1

      stepped_over : keeps → IsHeld (held_with old past) → IsStepOver s r (held_with old past) (held_after s r old new past)
      stepped_over keep x =
          let one = over keep past x in
          let is = told_past (Unit {0}) old.now s r (state_with old past) (state_with new one.0) one.1 in
          subst (λ (later : Past). IsStepOver s r (held_with old past) (held_with new later)) is one.1

  -- so does each step that asks the device for no block, over whichever bytes
  pub any_turns : asks_device s ≡ false → StepReplies s r old.shown new.shown → (keeps → Leads r old new) → (past : Past) → TurnsTo keeps s r old new past
  any_turns off replies leads = turns replies (λ keep. any_bytes s r old new off replies) leads
