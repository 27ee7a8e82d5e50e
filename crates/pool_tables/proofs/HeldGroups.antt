-- The groups of a pool are a line, and its counts of holds are those of the open transactions, whatever step is made.
use Rattle.std.proofs.Common.{rules, ◌≡◌, ◌≢◌, ℕ, ◌+◌, ◌<◌, ◌≤◌, Bool, true, false, cond, not, ◌↔◌, List, [], ◌∷◌, ◌++◌, length, refl, sym, subst, ap, ◌∙◌, arith}
use Rattle.std.specs.Prelude.{Option, Some, ◌==◌, ◌||◌, filter, is_none, is_some, slice_get, Result, Ok, Err, IfOk, IsErr, IsTrue, OnErr, OnOk}
use Rattle.std.specs.List.{find}
use Rattle.std.proofs.lemmas.Bool.{eqb-true, false≢true, lt-leb, ne_eqb}
use Rattle.std.proofs.lemmas.List.{length-append}
use Rattle.std.proofs.lemmas.List.Elements.{filter-append}
use Rattle.base.specs.declared.error.PoolError.{PoolError}
use Rattle.base.specs.declared.names.Group.{Group}
use Rattle.base.specs.formats.Limits.{first_group, last_number, max_transactions}
use Rattle.base.specs.steps.Groups.{AreNamedApart, Admission, Line, MayHold, hold_count}
use Rattle.base.specs.steps.Refusals.{quiesced_group, quiescing_group}
use Rattle.base.specs.steps.Steps.{transactions_without}
use Rattle.base.proofs.common.KeptLists.{Some-injective}
use Rattle.base.proofs.common.Choices.{none_there}
use Rattle.base.proofs.steps.KeptGroups.{held_above, line_quiesce, line_start, line_sync, quiesced_is, quiescing_is}
use Rattle.groups.specs.CountedLines.{CountedLine, IsCounted, after_close, after_hold, after_quiesce, after_release, after_start, after_sync, counted_behind, hold_total, holds_of, is_close_refused, is_hold_refused, is_quiesce_refused, is_release_refused, is_start_refused, line_after_sync}
use Rattle.groups.specs.Laws.{AreHoldsExact, BeginsAreHeld, MovesKeepHolds}
use Rattle.groups.proofs.HoldCounts as holds
use Rattle.groups.proofs.ExactHolds.{count_transactions, is_released}
use Rattle.pool_tables.specs.Lines.{MayStart}
use Rattle.pool_tables.proofs.Flags.{from_not_false, same_test}
use Rattle.pool_tables.proofs.Opens.{found_index, found_name}

pub counted_new : (group : ℕ) → first_group ≤ group → group < last_number → IsCounted (counted_behind group)
counted_new group low high = search rules

pub exact_new : (group : ℕ) → AreHoldsExact [] (counted_behind group)
exact_new group = search rules

holds_of-after_hold : (l : CountedLine) (group : ℕ) → holds_of (after_hold l) group ≡ holds_of l group + cond (l.line.open_group == group) 1 0
holds_of-after_hold l group = search rules

hold_count-push : (group : ℕ) (a : Admission) (ts : List Admission) → hold_count group (ts ++ a ∷ []) ≡ hold_count group ts + cond (a.group == group) 1 0
hold_count-push group a ts =
    ap length (filter-append (λ (x : Admission). x.group == group) ts (a ∷ []))
    ∙ length-append (filter (λ (x : Admission). x.group == group) ts) (filter (λ (x : Admission). x.group == group) (a ∷ []))
    ∙ ap (λ n. hold_count group ts + n) (one (a.group == group))
  where
    one : (b : Bool) → length (cond b (a ∷ []) []) ≡ cond b 1 0
    one true = refl
    one false = refl

pub exact_begin : BeginsAreHeld
exact_begin ts l a exact is group =
    holds_of-after_hold l group ∙ ap (λ n. n + cond (l.line.open_group == group) 1 0) (exact group) ∙ ap (λ g. hold_count group ts + cond (g == group) 1 0) (sym is) ∙ sym (hold_count-push group a ts)

pub exact_moves : MovesKeepHolds
exact_moves = search rules

module _ (l : CountedLine) (counted : IsCounted l) where
  pub counted_hold : IsCounted (after_hold l)
  counted_hold = record { line = counted.line; quiesced = counted.quiesced }

  pub line-after_release : (group : ℕ) → (after_release group l).line ≡ l.line
  line-after_release group = search rules

  pub counted_release : (group : ℕ) → IsCounted (after_release group l)
  counted_release group = search rules

  pub counted_close : is_close_refused l.line ≡ false → IsCounted (after_close l)
  counted_close may = search rules

  pub counted_quiesce : (group : ℕ) → quiescing_group l.line ≡ Some group → is_quiesce_refused l ≡ false → IsCounted (after_quiesce group l)
  counted_quiesce group is may = record {
    line = line_quiesce l.line group counted.line (quiescing_is l.line group is);
    quiesced = λ _. none_left (rw is at may);
  }
    where
      none_left : not (l.middle_holds == 0) ≡ false → l.middle_holds ≡ 0
      none_left none = eqb-true l.middle_holds 0 (from_not_false _ _ refl none)

  pub counted_start : (group : ℕ) → quiesced_group l.line ≡ Some group → is_some l.line.syncing ≡ false → IsCounted (after_start group l)
  counted_start group is none = record {
    line = line_start l.line group counted.line (quiesced_is l.line group is) (none_there l.line.syncing none);
    quiesced = λ _. counted.quiesced (search rules);
  }

  pub counted_sync : (group : ℕ) → l.line.syncing ≡ Some group → IsCounted (after_sync group l)
  counted_sync group is = record { line = line_sync l.line group counted.line is; quiesced = counted.quiesced }

  -- a group with a hold may have open transactions
  pub may_hold : (group : ℕ) → 0 < holds_of l group → MayHold l.line group
  may_hold group held = search rules

  -- so no open transaction is of the syncing group
  pub none_syncing : (ts : List Admission) → AreHoldsExact ts l → (group : ℕ) → l.line.syncing ≡ Some group → (i : ℕ) (a : Admission) → slice_get ts i ≡ Some a → a.group ≢ group
  none_syncing ts exact group is i a at same =
      let held : 0 < holds_of l a.group = subst (λ n. 0 < n) (sym (exact a.group)) (holds.has_hold ts i a at) in
      let above : (group < a.group) × (a.group ≤ l.line.open_group) = held_above (line_after_sync group l.line) a.group (line_sync l.line group counted.line is) (may_hold a.group held) in
      omega (arith, same, above.0)

  -- where fewer than 64 transactions are open, one more may hold
  pub may_begin_hold : (ts : List Admission) → AreHoldsExact ts l → length ts < max_transactions → is_hold_refused l ≡ false
  may_begin_hold ts exact few = let total = (count_transactions ts l counted exact).total in lt-leb max_transactions (hold_total l) (omega (arith, total, few))

-- what holds where a call is not refused, which it is not where its test passes
pub where_passed : {A : Type 0} (answer : Result A PoolError) (test : Bool) (P : Type 0) → (IsErr answer ↔ IsTrue test) → test ≡ false → OnOk answer P → P
where_passed (Ok x) test P refused passes is = is
where_passed (Err e) test P refused passes is = absurd (false≢true (sym passes ∙ refused.0 refl))

-- a group with a hold may release it
pub may_release : (l : CountedLine) (group : ℕ) → 0 < holds_of l group → is_release_refused l group ≡ false
may_release l group held = ne_eqb (holds_of l group) 0 (λ none. omega (arith, held, none))

-- the transaction of a name has a hold, and without both the counts are those of the others
module _ (ts : List Admission) (l : CountedLine) (tx : ℕ) (a : Admission) (group : ℕ) (exact : AreHoldsExact ts l) (apart : AreNamedApart ts)
    (found : find (λ (x : Admission). x.tx == tx) ts ≡ Some a) (group_is : a.group ≡ group) where
  pub has_hold : 0 < holds_of l group
  has_hold = let at = found_index tx ts a found in subst (λ g. 0 < holds_of l g) group_is (is_released ts l at.0 a exact apart at.1).hold

  pub exact_end : AreHoldsExact (transactions_without tx ts) (after_release group l)
  exact_end =
      let at = found_index tx ts a found in
      subst (λ g. AreHoldsExact (transactions_without tx ts) (after_release g l)) group_is
      (subst (λ n. AreHoldsExact (transactions_without n ts) (after_release a.group l)) (found_name tx ts a found) (is_released ts l at.0 a exact apart at.1).exact)

-- what is made of a group, made of the group of this number
pub of_group : (made : ℕ → CountedLine) (o : Option ℕ) (group other : ℕ) {new : CountedLine} → o ≡ Some group → o ≡ Some other → new ≡ made other → new ≡ made group
of_group made o group other {new} is also at = subst (λ g. new ≡ made g) (Some-injective (sym also ∙ is)) at

-- where the sync of a group may start it is not refused
pub may_start : (l : Line) (group : ℕ) → MayStart group l → is_start_refused l ≡ false
may_start l group may = λ i. is_none (may.0 i) || may.1 i

-- so it starts
pub started : (answer : Result Group PoolError) (l new : CountedLine) (group : ℕ) → MayStart group l.line → (IsErr answer ↔ IsTrue (is_start_refused l.line)) → IfOk answer (λ g. new ≡ after_start g.0 l)
    → IfOk answer (λ g. quiesced_group l.line ≡ Some g.0) → new ≡ after_start group l
started (Ok g) l new group may refused is at = of_group (λ n. after_start n l) (quiesced_group l.line) group g.0 may.0 at is
started (Err e) l new group may refused is at =
    absurd (false≢true (sym (may_start l.line group may) ∙ refused.0 refl))

-- a close and a quiesce, refused or not
module _ (answer : Result Group PoolError) (ts : List Admission) (old new : CountedLine) (counted : IsCounted old) (exact : AreHoldsExact ts old) where
  abbrev AreKept : CountedLine → Type 0
  AreKept l = IsCounted l × AreHoldsExact ts l

  pub close_keeps : (IsErr answer ↔ IsTrue (is_close_refused old.line)) → OnErr answer (new ≡ old) → OnOk answer (new ≡ after_close old) → AreKept new
  close_keeps refused unchanged closed = by answer refused unchanged closed
    where
      by : (r : Result Group PoolError) → (IsErr r ↔ IsTrue (is_close_refused old.line)) → OnErr r (new ≡ old) → OnOk r (new ≡ after_close old) → AreKept new
      by (Ok group) may same is = subst AreKept (sym is) (counted_close old counted (same_test may), (exact_moves ts old counted exact).close (same_test may))
      by (Err e) may same is = subst AreKept (sym same) (counted, exact)

  pub quiesce_keeps : (IsErr answer ↔ IsTrue (is_quiesce_refused old)) → OnErr answer (new ≡ old) → IfOk answer (λ group. new ≡ after_quiesce group.0 old)
      → IfOk answer (λ group. quiescing_group old.line ≡ Some group.0) → AreKept new
  quiesce_keeps refused unchanged quiesced group_is = by answer refused unchanged quiesced group_is
    where
      by : (r : Result Group PoolError) → (IsErr r ↔ IsTrue (is_quiesce_refused old)) → OnErr r (new ≡ old) → IfOk r (λ group. new ≡ after_quiesce group.0 old)
          → IfOk r (λ group. quiescing_group old.line ≡ Some group.0) → AreKept new
      by (Ok group) may same is at = subst AreKept (sym is) (counted_quiesce old counted group.0 at (same_test may), (exact_moves ts old counted exact).quiesce group.0 at)
      by (Err e) may same is at = subst AreKept (sym same) (counted, exact)
