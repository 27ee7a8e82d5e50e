-- The synced and the open group only go up, and what is shown as durable is known to be so from then on.
use Rattle.std.proofs.Common.{◌≡◌, ℕ, zero, suc, ◌+◌, ◌<◌, ◌≤◌, true, false, ◌&&◌, List, [], ◌∷◌, refl, ap, sym, subst, ◌∙◌, arith, inl, inr}
use Rattle.std.specs.Prelude.{Some, IfSome, slice_get, nat_le}
use Rattle.std.specs.List.{list_any}
use Rattle.std.proofs.lemmas.Bool.{and_parts, or_cases, leb-true}
use Rattle.base.specs.declared.step.Step as declared_step
use Rattle.base.specs.declared.step.Reply as declared_reply
use Rattle.base.specs.history.History.{Entry}
use Rattle.base.specs.steps.Groups.{Line}
use Rattle.base.specs.history.Past.{Grows}
use Rattle.base.specs.steps.Logs.{KeptBlock, Committed, has_record, is_flushed_in}
use Rattle.base.specs.steps.Shown.{is_durable}
use Rattle.base.specs.kept.Effects.{Effect, HasEffect, MayHave, state_after}
use Rattle.base.specs.kept.Effects.Effect.{OpensNext, EndsSync}
use Rattle.base.specs.steps.Steps.{State}
use Rattle.base.specs.steps.Tables.{AreTablesExplained, IsRun, GoesOn}
use Rattle.base.specs.steps.Seen.{IsKnownDurable, IsPoolSynced}
use Rattle.base.proofs.steps.KeptGroups.{held_above}
use Rattle.base.proofs.steps.KeptTables.{steps_keep_tables}
use Rattle.base.proofs.steps.StepEffects.{step_does}
use Rattle.base.proofs.steps.SeenStates.{grown, at-prefix}

-- the groups of a line are no lower than those of an earlier one
abbrev GoUp : Line → Line → Type 0
GoUp l m = (l.synced ≤ m.synced) × (l.open_group ≤ m.open_group)

same-up : (l : Line) → GoUp l l
same-up l = (omega arith, omega arith)

-- they go up with each effect
effect-up : (e : Effect) (s : State) → AreTablesExplained s.shown s.past → MayHave e s → GoUp s.shown.line (state_after e s).shown.line
effect-up OpensNext s x may = (omega arith, omega arith)
effect-up (EndsSync group plan) s x may =
    let next : group ≡ s.shown.line.synced + 1 = subst (λ o. IfSome o (λ n. n ≡ s.shown.line.synced + 1)) may.0 x.exact.groups.line.syncing in
    (omega arith, omega arith)
effect-up _ s x may = same-up s.shown.line

has-up : (old new : State) → AreTablesExplained old.shown old.past → HasEffect old new → GoUp old.shown.line new.shown.line
has-up old new x has = elim (has.left) as (λ _. GoUp old.shown.line new.shown.line) [
  | inl is ↦ subst (λ (t : State). GoUp old.shown.line t.shown.line) (sym is) (effect-up has.effect old x has.may)
  | inr is ↦ subst (λ (t : State). GoUp old.shown.line t.shown.line) (sym is) (effect-up has.effect old x has.may)
]

run-up : (ss : List declared_step.Step) (rs : List declared_reply.Reply) (old new : State) → AreTablesExplained old.shown old.past → IsRun ⊥ ss rs old new → GoUp old.shown.line new.shown.line
run-up [] [] old new x same = subst (λ (t : State). GoUp old.shown.line t.shown.line) (sym same) (same-up old.shown.line)
run-up (s ∷ ss) (r ∷ rs) old new x (middle, (now, one), rest) =
    let first = has-up old middle x (step_does ⊥ now s r old middle one).has in
    let others = run-up ss rs middle new (steps_keep_tables ⊥ now s r old middle one x) rest in
    (omega (arith, first.0, others.0), omega (arith, first.1, others.1))
run-up [] (r ∷ rs) old new x h = absurd h
run-up (s ∷ ss) [] old new x h = absurd h

pub groups_go_up : (before after : State) → AreTablesExplained before.shown before.past → GoesOn before after
    → (before.shown.line.synced ≤ after.shown.line.synced) × (before.shown.line.open_group ≤ after.shown.line.open_group)
groups_go_up before after x (ss, rs, run) = run-up ss rs before after x run

pub pool_syncs_sync : (before after : State) → AreTablesExplained before.shown before.past → IsPoolSynced before after → before.shown.line.synced < after.shown.line.synced
pool_syncs_sync before after x synced = let above = held_above before.shown.line before.shown.line.open_group x.exact.groups.line (inl refl) in omega (arith, synced, above.0)

-- there is an entry of this ordinal and group
abbrev HasEntry : ℕ → ℕ → List Entry → Type 0
HasEntry ordinal group entries = (e : Entry) × (slice_get entries ordinal ≡ Some e) × (e.group ≡ group)

-- a flushed record is of an entry that is there
flushed-known : (r : Committed) (entries : List Entry) (bs : List KeptBlock) → ((i : ℕ) (b : KeptBlock) → slice_get bs i ≡ Some b → has_record b r ≡ true → HasEntry r.ordinal r.group entries)
    → list_any (λ (b : KeptBlock). b.flushed && has_record b r) bs ≡ true → HasEntry r.ordinal r.group entries
flushed-known r entries [] known is = absurd (let no_way : false ≡ true = is in cc)
flushed-known r entries (b ∷ bs) known is = elim (or_cases (b.flushed && has_record b r) (list_any (λ (c : KeptBlock). c.flushed && has_record c r) bs) is) as (λ _. HasEntry r.ordinal r.group entries) [
  | inl here ↦ known zero b refl (and_parts b.flushed (has_record b r) here).1
  | inr later ↦ flushed-known r entries bs (λ i c at. known (suc i) c at) later
]

shown-known : (ordinal group : ℕ) (s : State) → AreTablesExplained s.shown s.past → is_durable s.shown ordinal group ≡ true → IsKnownDurable ordinal group s
shown-known ordinal group s x is = elim (or_cases (nat_le group s.shown.line.synced) (is_flushed_in s.shown.log (record { ordinal = ordinal; group = group })) is) as (λ _. IsKnownDurable ordinal group s) [
  | inl low ↦ inl (leb-true group s.shown.line.synced low)
  | inr flushed ↦
      let r : Committed = record { ordinal = ordinal; group = group } in
      let known = flushed-known r s.past.entries s.shown.log.kept (λ i b at. x.exact.log.known i b r at) flushed in
      inr (known.0, known.1, known.2, x.exact.log.acknowledged ordinal known.0 known.1 ∙ ap (λ g. is_durable s.shown ordinal g) known.2 ∙ is)
]

known-stays : (ordinal group : ℕ) (s after : State) → AreTablesExplained s.shown s.past → GoesOn s after → IsKnownDurable ordinal group s → IsKnownDurable ordinal group after
known-stays ordinal group s after x onward (inl low) = inl (let up = (groups_go_up s after x onward).0 in omega (arith, low, up))
known-stays ordinal group s after x onward (inr (e, at, of_group, is)) =
    let g : Grows s.past after.past = grown s after onward in
    inr (e, at-prefix s.past.entries after.past.entries ordinal e g.entries at, of_group, g.acknowledged ordinal is)

pub durable_is_known : (ordinal group : ℕ) (s after : State) → AreTablesExplained s.shown s.past → is_durable s.shown ordinal group ≡ true → GoesOn s after → IsKnownDurable ordinal group after
durable_is_known ordinal group s after x is onward = known-stays ordinal group s after x onward (shown-known ordinal group s x is)
