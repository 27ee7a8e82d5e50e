-- Closing a group, and marking it quiesced, step by step.
use Rattle.std.proofs.Common.{ℕ, ◌≡◌, ◌+◌, ◌↔◌, ◌∙◌, ◌≤◌, Bool, true, false, ◌||◌, List, nat_le, refl, sym, arith}
use Rattle.std.specs.Prelude.{Some, None, Result, Ok, Err, IfErr, IfOk, IsErr, IsTrue, OnErr, OnOk, is_some, not, ◌==◌}
use Rattle.std.specs.Option.{option_map_or}
use Rattle.base.specs.declared.names.Group.{Group}
use Rattle.base.specs.declared.error.PoolError.{PoolError}
use Rattle.base.specs.declared.error.PoolError.TheVariants as error
use Rattle.base.specs.formats.Limits.{last_number}
use Rattle.base.specs.steps.Shown.{Shown}
use Rattle.base.specs.steps.Groups.{Admission, hold_count}
use Rattle.base.specs.steps.Refusals.{close_refusal, quiesce_refusal, quiescing_group}
use Rattle.base.specs.steps.Steps.{line_after_close, line_after_quiesce, CloseGroup, MarkQuiesced}
use Rattle.groups.specs.CountedLines.{CountedLine, IsCounted, after_close, after_quiesce, is_close_refused, is_quiesce_refused}
use Rattle.groups.specs.Laws.{AreHoldsExact}
use Rattle.throttle.specs.DirtyBytes.{DirtyBytes}
use Rattle.throttle.proofs.ShownSums.{sums_stay_on_lines}
use Rattle.pool_tables.specs.Accounts.{AreAccounted}
use Rattle.pool_tables.specs.Meets.{Meets}
use Rattle.pool_tables.specs.Tables.{result_map}
use Rattle.pool_tables.proofs.Flags.{same_test}

-- no group quiesces, or a transaction of the one that does is open
abbrev has_hold_left : Shown → Bool
has_hold_left s = not (option_map_or (λ g. hold_count g s.transactions == 0) (quiescing_group s.line) false)

pub close_suspended : (s : Shown) → s.suspended ≡ true → Meets CloseGroup (Err error.Suspended) s s
close_suspended s h = λ past. (past, rw h (refl, refl))

pub close_last : (s : Shown) → s.suspended ≡ false → (is_some s.line.middle || nat_le last_number s.line.open_group) ≡ true → Meets CloseGroup (Err error.NotReady) s s
close_last s h last = λ past. (past, let e : close_refusal s ≡ Some error.NotReady = rw (h, last) refl in rw e (refl, refl))

pub close_done : (s n : Shown) (group : ℕ) → s.suspended ≡ false → (is_some s.line.middle || nat_le last_number s.line.open_group) ≡ false
    → group ≡ s.line.open_group + 1 → n ≡ record s { line = line_after_close s.line } → Meets CloseGroup (Ok group) s n
close_done s n group h last e same = λ past. (past, let none : close_refusal s ≡ None = rw (h, last) refl in rw none (e, rw same refl))

-- a close that is refused exactly if the definitions say, of the line and of the pool
pub close_ends : (answer : Result Group PoolError) (old new : CountedLine) (s : Shown) → s.suspended ≡ false → s.line ≡ old.line → (IsErr answer ↔ IsTrue (is_close_refused old.line))
    → IfErr answer (λ e. e ≡ error.NotReady) → OnErr answer (new ≡ old) → OnOk answer (new ≡ after_close old) → IfOk answer (λ group. group.0 ≡ new.line.open_group)
    → Meets CloseGroup (result_map (λ (group : Group). group.0) answer) s (record s { line = new.line })
close_ends (Ok group) old new s h line refused error unchanged closed is =
    close_done s (record s { line = new.line }) group.0 h (rw line (same_test refused)) (is ∙ rw (closed, line) refl) (rw (closed, line) refl)
close_ends (Err e) old new s h line refused error unchanged closed is =
    rw (error, unchanged, ← line) (close_last s h (rw line (same_test refused)))

-- the synced group stays, and the open group's number never falls
pub close_moves : (answer : Result Group PoolError) (old new : CountedLine) → OnErr answer (new ≡ old) → OnOk answer (new ≡ after_close old) → (new.line.synced ≡ old.line.synced) × (old.line.open_group ≤ new.line.open_group)
close_moves (Ok group) old new unchanged closed = rw closed (refl, omega arith)
close_moves (Err e) old new unchanged closed = rw unchanged (refl, omega arith)

-- where the line moves on with the same synced group, and its holds stay exact, the tables owe to one another what they
-- did
pub accounts_move_on : (ts : List Admission) (old new : CountedLine) (dirty : DirtyBytes) → IsCounted new × AreHoldsExact ts new → (new.line.synced ≡ old.line.synced) × (old.line.open_group ≤ new.line.open_group)
    → AreAccounted ts old dirty → AreAccounted ts new dirty
accounts_move_on ts old new dirty kept moves was = record {
  counted = kept.0;
  holds_exact = kept.1;
  charged = (sums_stay_on_lines old.line dirty was.charged).moved new.line moves.0 moves.1;
  open_charged = was.open_charged;
  plans_allowed = was.plans_allowed;
  plans_small = was.plans_small;
}

pub quiesce_suspended : (s : Shown) → s.suspended ≡ true → Meets MarkQuiesced (Err error.Suspended) s s
quiesce_suspended s h = λ past. (past, rw h (refl, refl))

pub quiesce_moves : (answer : Result Group PoolError) (old new : CountedLine) → OnErr answer (new ≡ old) → IfOk answer (λ group. new ≡ after_quiesce group.0 old)
    → (new.line.synced ≡ old.line.synced) × (old.line.open_group ≤ new.line.open_group)
quiesce_moves (Ok group) old new unchanged quiesced = rw quiesced (refl, omega arith)
quiesce_moves (Err e) old new unchanged quiesced = rw unchanged (refl, omega arith)

quiesce_held : (s : Shown) → s.suspended ≡ false → has_hold_left s ≡ true → Meets MarkQuiesced (Err error.NotReady) s s
quiesce_held s h held = λ past. (past, let e : quiesce_refusal s ≡ Some error.NotReady = rw (h, held) refl in rw e (refl, refl))

quiesce_done : (s n : Shown) (g : ℕ) → s.suspended ≡ false → has_hold_left s ≡ false → quiescing_group s.line ≡ Some g → n ≡ record s { line = line_after_quiesce g s.line } → Meets MarkQuiesced (Ok g) s n
quiesce_done s n g h free some same = λ past. (past, let none : quiesce_refusal s ≡ None = rw (h, free) refl in rw none (some, rw same refl))

-- a quiesce that is refused exactly if its counts say, which are those of the open transactions
pub quiesce_ends : (answer : Result Group PoolError) (old new : CountedLine) (s : Shown) → s.suspended ≡ false → s.line ≡ old.line → is_quiesce_refused old ≡ has_hold_left s
    → (IsErr answer ↔ IsTrue (is_quiesce_refused old)) → IfErr answer (λ e. e ≡ error.NotReady) → OnErr answer (new ≡ old) → IfOk answer (λ group. new ≡ after_quiesce group.0 old)
    → IfOk answer (λ group. quiescing_group old.line ≡ Some group.0) → Meets MarkQuiesced (result_map (λ (group : Group). group.0) answer) s (record s { line = new.line })
quiesce_ends (Ok group) old new s h line exact refused error unchanged quiesced is =
    quiesce_done s (record s { line = new.line }) group.0 h (sym exact ∙ same_test refused) (rw line is) (rw (quiesced, line) refl)
quiesce_ends (Err e) old new s h line exact refused error unchanged quiesced is =
    rw (error, unchanged, ← line) (quiesce_held s h (sym exact ∙ same_test refused))
