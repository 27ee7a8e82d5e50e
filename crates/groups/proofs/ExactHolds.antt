-- Each group keeps as many holds as it has open transactions, and these are all.
use Rattle.std.proofs.Common.{rules, ◌≡◌, ◌≢◌, ℕ, ◌+◌, ◌<◌, false, not, cond, List, length, refl, ap, sym, subst, ◌∙◌, arith, ◌⊎◌}
use Rattle.std.specs.Prelude.{Option, Some, None, slice_get, ◌==◌}
use Rattle.std.specs.Option.{option_map_or}
use Rattle.base.specs.steps.Groups.{AreNamedApart, Middle, Admission, hold_count}
use Rattle.base.specs.steps.Refusals.{quiescing_group}
use Rattle.base.specs.steps.Steps.{transactions_without}
use Rattle.groups.specs.CountedLines.{CountedLine, IsCounted, holds_of, after_release}
use Rattle.groups.specs.Laws.{AreHoldsExact, IsReleased, CountTransactions}
use Rattle.groups.proofs.HoldCounts.{hold_in, hold_count-without, has_hold, length-of_two}

-- a release takes one hold from its group, and none from another
holds_of-after_release : (l : CountedLine) (g group : ℕ) → 0 < holds_of l g → holds_of l group ≡ holds_of (after_release g l) group + cond (g == group) 1 0
holds_of-after_release l g group held = search rules

pub is_released : (ts : List Admission) (l : CountedLine) (i : ℕ) (a : Admission) → AreHoldsExact ts l → AreNamedApart ts → slice_get ts i ≡ Some a → IsReleased ts l a
is_released ts l i a exact apart at =
    let held : 0 < holds_of l a.group = subst (λ n. 0 < n) (sym (exact a.group)) (has_hold ts i a at) in
    record {
      hold = held;
      exact = λ group. let before : holds_of l group ≡ holds_of (after_release a.group l) group + hold_in group a = holds_of-after_release l a.group group held in
          let without : hold_count group ts ≡ hold_count group (transactions_without a.tx ts) + hold_in group a = hold_count-without ts i a group apart at in
          let now : holds_of l group ≡ hold_count group ts = exact group in
          omega (arith, before, without, now);
    }

-- the middle, or where there is none, a group after the open one
beside_open : CountedLine → ℕ
beside_open l = option_map_or (λ (m : Middle). m.group) l.line.middle (l.line.open_group + 1)

holds_of-open : (l : CountedLine) → holds_of l l.line.open_group ≡ l.open_holds
holds_of-open l = search rules

holds_of-beside : (l : CountedLine) → IsCounted l → holds_of l (beside_open l) ≡ l.middle_holds
unfolding beside_open
holds_of-beside l counted = search rules

no_others : (l : CountedLine) (g : ℕ) → 0 < holds_of l g → (g ≡ l.line.open_group) ⊎ (g ≡ beside_open l)
unfolding beside_open
no_others l g held = search rules

open_is_beside : (l : CountedLine) → IsCounted l → l.line.open_group ≢ beside_open l
unfolding beside_open
open_is_beside l counted = search rules

-- the holds of the quiescing group are those of the middle
holds_of-quiescing : (l : CountedLine) (g : ℕ) → IsCounted l → quiescing_group l.line ≡ Some g → holds_of l g ≡ l.middle_holds
holds_of-quiescing l g counted is = search rules

pub count_transactions : (ts : List Admission) (l : CountedLine) → IsCounted l → AreHoldsExact ts l → CountTransactions ts l
count_transactions ts l counted exact = record {
  total =
      let two : hold_count l.line.open_group ts + hold_count (beside_open l) ts ≡ length ts = length-of_two l.line.open_group (beside_open l) (open_is_beside l counted) ts
      (λ i a at. no_others l a.group (subst (λ n. 0 < n) (sym (exact a.group)) (has_hold ts i a at))) in
      let in_open : l.open_holds ≡ hold_count l.line.open_group ts = sym (holds_of-open l) ∙ exact l.line.open_group in
      let beside : l.middle_holds ≡ hold_count (beside_open l) ts = sym (holds_of-beside l counted) ∙ exact (beside_open l) in
      omega (arith, two, in_open, beside);
  refused = ap not (same (quiescing_group l.line) (λ g is. sym (holds_of-quiescing l g counted is) ∙ exact g));
}
  where
    same : (o : Option ℕ) → ((g : ℕ) → o ≡ Some g → l.middle_holds ≡ hold_count g ts)
        → option_map_or (λ g. l.middle_holds == 0) o false ≡ option_map_or (λ g. hold_count g ts == 0) o false
    same None each = refl
    same (Some g) each = ap (λ n. n == 0) (each g refl)
