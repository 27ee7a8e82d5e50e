-- A begin: its tests in order, each list of them after the other, and what it makes of what a pool shows.
use Rattle.std.proofs.Common.{ℕ, ◌≡◌, ◌+◌, Bool, true, false, List, [], ◌∷◌, ◌++◌, ◌||◌, ◌<◌, ◌≤◌, length, nat_le, nat_lt, refl, sym, ◌∙◌, arith}
use Rattle.std.specs.Prelude.{Some, None, Result, Ok, Err}
use Rattle.std.specs.List.{list_all}
use Rattle.std.proofs.lemmas.Bool.{and_parts, or_parts, ltb-false}
use Rattle.std.proofs.lemmas.Bool.Decides.{nat_tests}
use Rattle.base.specs.declared.error.PoolError.{PoolError}
use Rattle.base.specs.declared.error.PoolError.TheVariants as error
use Rattle.base.specs.declared.operation.Shape.{Shape}
use Rattle.base.specs.formats.Limits.{max_log_record, max_transactions}
use Rattle.base.specs.history.Plans.{charge_of, is_plan_allowed, is_shape_allowed, log_record_size}
use Rattle.base.specs.steps.Locks.{Grant}
use Rattle.base.specs.steps.Refusals.{Test, begin_refusal, begin_tests, blocks_wanted, first_refusal, is_plan_blocked, is_plan_covered}
use Rattle.base.specs.steps.Shown.{Shown, available, dirty_total}
use Rattle.base.specs.steps.Steps.{Begin, State, next_admission, state_after_charged_admission}
use Rattle.throttle.specs.Blocks.{ShowsSums, blocks_of}
use Rattle.throttle.specs.DirtyBytes.{DirtyBytes, after_admit}
use Rattle.throttle.proofs.ShownSums.{admissions_are_shown}
use Rattle.transactions.specs.Open.{admit_refusal, are_too_many}
use Rattle.transactions.proofs.KeptRanges.{allowed_shapes, kept_same}
use Rattle.pool_tables.specs.BeginTests.{plan_tests, range_tests, room_tests}
use Rattle.pool_tables.specs.Meets.{Meets, Passes}
use Rattle.pool_tables.specs.Targets.{is_kept_covered}
use Rattle.pool_tables.proofs.Flags.{from_not_false}

-- tests after others that don't apply, and the first refusal of a list stays where others come after it
passed_before : (ts us : List Test) → first_refusal ts ≡ None → first_refusal (ts ++ us) ≡ first_refusal us
passed_before [] us none = refl
passed_before (t ∷ ts) us none = go t.applies none (passed_before ts us)
  where
    go : (b : Bool) → first_refusal (record { applies = b; error = t.error } ∷ ts) ≡ None → (first_refusal ts ≡ None → first_refusal (ts ++ us) ≡ first_refusal us)
        → first_refusal (record { applies = b; error = t.error } ∷ ts ++ us) ≡ first_refusal us
    go true h rest = absurd (let no_way : Some t.error ≡ None = h in cc)
    go false h rest = rest h

refused_before : (ts us : List Test) (e : PoolError) → first_refusal ts ≡ Some e → first_refusal (ts ++ us) ≡ Some e
refused_before [] us e some = absurd (let no_way : None ≡ Some e = some in cc)
refused_before (t ∷ ts) us e some = go t.applies some (refused_before ts us e)
  where
    go : (b : Bool) → first_refusal (record { applies = b; error = t.error } ∷ ts) ≡ Some e → (first_refusal ts ≡ Some e → first_refusal (ts ++ us) ≡ Some e)
        → first_refusal (record { applies = b; error = t.error } ∷ ts ++ us) ≡ Some e
    go true h rest = h
    go false h rest = rest h

below_most : (n : ℕ) (other : Bool) → (nat_le max_transactions n || other) ≡ false → n < max_transactions
below_most n other h = let few = (or_parts (nat_le max_transactions n) other h).0 in grind (arith, nat_tests)

-- none of some tests applies
abbrev pub AllPass : List Test → Type 0
AllPass [] = Unit {0}
AllPass (t ∷ ts) = (t.applies ≡ false) × AllPass ts

pub all_pass : (ts : List Test) → first_refusal ts ≡ None → AllPass ts
all_pass [] none = tt
all_pass (t ∷ ts) none = go t.applies none (all_pass ts)
  where
    go : (b : Bool) → first_refusal (record { applies = b; error = t.error } ∷ ts) ≡ None → (first_refusal ts ≡ None → AllPass ts) → (b ≡ false) × AllPass ts
    go true h rest = absurd (let no_way : Some t.error ≡ None = h in cc)
    go false h rest = (refl, rest h)

-- a plan has passed the tests of a begin
pub record MayBegin (plan : List Shape) (s : Shown) : Type 0 where
  pub allowed : is_plan_allowed plan ≡ true
  pub small : log_record_size plan ≤ max_log_record
  pub free : is_plan_blocked plan s.transactions ≡ false
  pub few : length s.transactions < max_transactions
  pub room : are_too_many (record { transactions = s.transactions; next = s.next_tx }) ≡ false
  pub charge : nat_lt s.dirty_max (dirty_total s + charge_of plan) ≡ false
  pub blocks : nat_lt (available s) (blocks_wanted s.contents plan) ≡ false

module _ (owner : ℕ) (plan : List Shape) (s : Shown) where
  pub begin_suspended : s.suspended ≡ true → begin_refusal owner plan s ≡ Some error.Suspended
  begin_suspended h = rw h refl

  -- of a pool that runs: the tests of the plan are first, then those of its ranges, then those of the room
  module _ (running : s.suspended ≡ false) where
    waited : begin_refusal owner plan s ≡ first_refusal (plan_tests plan ++ range_tests owner plan s ++ room_tests plan s)
    waited = rw running refl

    pub begin_bad : (e : PoolError) → first_refusal (plan_tests plan) ≡ Some e → begin_refusal owner plan s ≡ Some e
    begin_bad e bad = waited ∙ refused_before (plan_tests plan) (range_tests owner plan s ++ room_tests plan s) e bad

    module _ (allowed : first_refusal (plan_tests plan) ≡ None) where
      to_ranges : begin_refusal owner plan s ≡ first_refusal (range_tests owner plan s ++ room_tests plan s)
      to_ranges = waited ∙ passed_before (plan_tests plan) (range_tests owner plan s ++ room_tests plan s) allowed

      pub begin_taken : (e : PoolError) → first_refusal (range_tests owner plan s) ≡ Some e → begin_refusal owner plan s ≡ Some e
      begin_taken e taken = to_ranges ∙ refused_before (range_tests owner plan s) (room_tests plan s) e taken

      module _ (free : first_refusal (range_tests owner plan s) ≡ None) where
        to_room : begin_refusal owner plan s ≡ first_refusal (room_tests plan s)
        to_room = to_ranges ∙ passed_before (range_tests owner plan s) (room_tests plan s) free

        -- the last tests decide
        pub begin_last : {A : Type 0} (answer : Result A PoolError) → Passes (room_tests plan s) answer → Passes (begin_tests owner plan s) answer
        begin_last (Ok a) passed = to_room ∙ passed
        begin_last (Err e) refused = to_room ∙ refused

  -- where none of its tests applies
  pub may_begin : begin_refusal owner plan s ≡ None → MayBegin plan s
  may_begin none =
      let passed = (all_pass (begin_tests owner plan s) none).1 in
      let ranges = passed.1.1.1 in
      record {
        allowed = from_not_false _ _ refl passed.0;
        small = ltb-false _ _ passed.1.0;
        few = below_most _ _ ranges.1.0;
        free = ranges.0;
        room = ranges.1.0;
        charge = ranges.1.1.0;
        blocks = ranges.1.1.1.0;
      }

  -- the transaction is admitted except for want of memory
  pub begin_admits : MayBegin plan s → admit_refusal plan (record { transactions = s.transactions; next = s.next_tx }) ≡ None
  begin_admits may = rw (may.free, may.room) refl

  pub begin_refused : (e : PoolError) → begin_refusal owner plan s ≡ Some e → Meets (Begin owner plan) (Err e) s s
  begin_refused e refused = λ past. (past, rw refused (refl, refl))

  pub begin_wants : begin_refusal owner plan s ≡ None → Meets (Begin owner plan) (Err error.NoMemory) s s
  begin_wants none = λ past. (past, rw none (refl, refl))

  -- what is shown after it has the sums with its charge, and their blocks
  pub begin_done : (d : DirtyBytes) (n : Shown) → begin_refusal owner plan s ≡ None → ShowsSums s d
      → n ≡ record s {
        transactions = s.transactions ++ next_admission owner plan s ∷ [];
        next_tx = s.next_tx + 1;
        dirty = (after_admit s.line.open_group (charge_of plan) d).sums;
        reserved = blocks_of (after_admit s.line.open_group (charge_of plan) d).sums;
      } → Meets (Begin owner plan) (Ok (s.next_tx, s.line.open_group)) s n
  begin_done d n none shows same = λ past.
      let a = next_admission owner plan s in
      let before : State = record { shown = s; past = past } in
      let charged = admissions_are_shown before d a (may_begin none).allowed shows in
      let all : n ≡ (state_after_charged_admission a before).shown =
      same ∙ (λ k. record s { transactions = s.transactions ++ a ∷ []; next_tx = s.next_tx + 1; dirty = sym charged.dirty k; reserved = sym charged.reserved k }) in
      (record past { admissions = past.admissions ++ a ∷ [] }, rw none (refl, λ k. record { shown = all k; past = record past { admissions = past.admissions ++ a ∷ [] } }))

-- its ranges lie in writer locks
all_covered : (owner : ℕ) (grants : List Grant) (plan : List Shape) → list_all is_shape_allowed plan ≡ true → is_kept_covered owner grants plan ≡ is_plan_covered owner plan grants
all_covered owner grants [] all = refl
all_covered owner grants (x ∷ plan) all =
    let parts = and_parts (is_shape_allowed x) (list_all is_shape_allowed plan) all in
    rw (kept_same x parts.0, all_covered owner grants plan parts.1) refl

pub covered_same : (owner : ℕ) (grants : List Grant) (plan : List Shape) → is_plan_allowed plan ≡ true → is_kept_covered owner grants plan ≡ is_plan_covered owner plan grants
covered_same owner grants plan allowed = all_covered owner grants plan (allowed_shapes plan allowed)
