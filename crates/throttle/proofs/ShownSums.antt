-- What a pool shows of its sums and their blocks: after an admission, an abort and a sync, and that its totals are
-- theirs.
use Rattle.std.proofs.Common.{rules, ◌≡◌, ◌≢◌, ℕ, ◌+◌, ◌-◌, ◌%◌, ◌<◌, ◌≤◌, true, List, [], ◌∷◌, refl, ap, sym, subst, ◌∙◌, arith, ◌⊎◌, inl, inr}
use Rattle.std.specs.Prelude.{unwrap_or, sum_by}
use Rattle.std.specs.List.{fold}
use Rattle.std.specs.Ordering.{nat_cmp}
use Rattle.std.proofs.lemmas.Bool.{cases_eq}
use Rattle.std.specs.FinMap as finite
use Rattle.std.specs.FinMap.{get-empty}
use Rattle.base.specs.declared.operation.Shape.{Shape}
use Rattle.base.specs.declared.operation.Shape.TheVariants.{Create, Remove, Write, SetLength, SetName}
use Rattle.base.specs.formats.Geometry.{block_size}
use Rattle.base.specs.history.Plans.{is_plan_allowed, estimate_of, estimate_of_shape, charge_of}
use Rattle.base.specs.steps.Charges.{with_sum}
use Rattle.base.specs.steps.Groups.{Line, IsLine, Admission, MayHold}
use Rattle.base.specs.steps.Shown.{Shown, SyncPlan, dirty_of, reserved_of, dirty_total, unsynced_groups}
use Rattle.base.specs.steps.Steps.{State, state_after_abort, state_after_charged_admission, state_after_sync}
use Rattle.base.proofs.steps.KeptGroups.{held_above}
use Rattle.throttle.specs.Blocks.{blocks_in, blocks_of, block_sum_of, AreSumsOn, AreWholeBlocks, ShowsSums}
use Rattle.throttle.specs.DirtyBytes.{DirtyBytes, MayBeUnsynced, sum_of, total_of, dirty_behind, after_admit, after_cancel, after_synced}
use Rattle.throttle.specs.Laws.{BlocksFollowSums, SameTotals, StaySumsOn}
use Rattle.throttle.proofs.BlockSums.{get-blocks_of, blocks_of-empty, blocks_of-insert, blocks_of-remove, blocks_of-with_sum, block_sum, blocks_in-charged, blocks_in-canceled, blocks_in-sum, whole-charged, whole-canceled}
use Rattle.throttle.proofs.GroupSums.{unwrap_or-entry_of, get-with_sum_own, get-with_sum_other, get-removed, get-removed_other}
use Rattle.throttle.proofs.SumLaws.{open_within, totals_agree, admits_are_entered}

some_blocks : (shape : Shape) → 0 < estimate_of_shape shape
some_blocks (Create n) = omega arith
some_blocks (Remove n) = omega arith
some_blocks (Write n offset count) = omega arith
some_blocks (SetLength n new) = omega arith
some_blocks (SetName count) = omega arith

no_fewer : (plan : List Shape) (first : ℕ) → first ≤ fold (λ n shape. n + estimate_of_shape shape) first plan
no_fewer [] first = omega arith
no_fewer (shape ∷ plan) first = let rest : first + estimate_of_shape shape ≤ fold (λ n s. n + estimate_of_shape s) (first + estimate_of_shape shape) plan = no_fewer plan (first + estimate_of_shape shape) in
    omega (arith, rest)

-- a plan that is allowed asks for a block at least
pub plans_ask_for_blocks : (plan : List Shape) → is_plan_allowed plan ≡ true → 0 < estimate_of plan
plans_ask_for_blocks [] allowed = absurd (search rules)
plans_ask_for_blocks (shape ∷ plan) allowed =
    let first : 0 < estimate_of_shape shape = some_blocks shape in
    let rest : 0 + estimate_of_shape shape ≤ estimate_of (shape ∷ plan) = no_fewer plan (0 + estimate_of_shape shape) in
    omega (arith, first, rest)

-- the charge of a plan that is allowed is entered in both maps
module _ (d : DirtyBytes) (group : ℕ) (plan : List Shape) (allowed : is_plan_allowed plan ≡ true) where
  pub sums-admitted : (after_admit group (charge_of plan) d).sums ≡ finite.insert d.sums group (sum_of d group + charge_of plan)
  sums-admitted =
      let some : 0 < estimate_of plan = plans_ask_for_blocks plan allowed in
      ap (λ (e : DirtyBytes). e.sums) (admits_are_entered d group (charge_of plan) (omega arith))

  pub blocks_of-admitted : blocks_of (after_admit group (charge_of plan) d).sums ≡ finite.insert (blocks_of d.sums) group (block_sum_of d group + estimate_of plan)
  blocks_of-admitted =
      ap blocks_of sums-admitted ∙ blocks_of-insert d.sums group (sum_of d group + charge_of plan)
      ∙ ap (finite.insert (blocks_of d.sums) group) (blocks_in-charged (sum_of d group) (estimate_of plan) ∙ ap (λ n. n + estimate_of plan) (sym (block_sum d.sums group)))

pub blocks_of-canceled : (d : DirtyBytes) (group : ℕ) (plan : List Shape) → AreWholeBlocks d
    → blocks_of (after_cancel group (charge_of plan) d).sums ≡ with_sum group (block_sum_of d group - estimate_of plan) (blocks_of d.sums)
blocks_of-canceled d group plan whole =
    blocks_of-with_sum d.sums group (sum_of d group - charge_of plan) (whole-canceled (sum_of d group) (estimate_of plan) (whole.each group))
    ∙ ap (λ n. with_sum group n (blocks_of d.sums)) (blocks_in-canceled (sum_of d group) (estimate_of plan) ∙ ap (λ n. n - estimate_of plan) (sym (block_sum d.sums group)))

pub blocks_follow_sums : BlocksFollowSums
blocks_follow_sums = record {
  none = blocks_of-empty;
  each = get-blocks_of;
  admitted = blocks_of-admitted;
  canceled = blocks_of-canceled;
  synced = blocks_of-remove;
}

pub new_sums_are_shown : (s : Shown) → s.dirty ≡ finite.empty → s.reserved ≡ finite.empty → ShowsSums s (dirty_behind s.dirty_max s.line.synced)
new_sums_are_shown s dirty reserved = record { limit = refl; dirty = dirty; reserved = reserved ∙ sym blocks_of-empty }

pub admissions_are_shown : (s : State) (d : DirtyBytes) (a : Admission) → is_plan_allowed a.plan ≡ true → ShowsSums s.shown d
    → ShowsSums (state_after_charged_admission a s).shown (after_admit a.group (charge_of a.plan) d)
admissions_are_shown s d a allowed x = record {
  limit = x.limit;
  dirty = rw x.dirty (sym (sums-admitted d a.group a.plan allowed));
  reserved = rw x.reserved (sym (blocks_of-admitted d a.group a.plan allowed));
}

pub aborts_are_shown : (s : State) (d : DirtyBytes) (tx : ℕ) (a : Admission) → AreWholeBlocks d → ShowsSums s.shown d
    → ShowsSums (state_after_abort tx a s).shown (after_cancel a.group (charge_of a.plan) d)
aborts_are_shown s d tx a whole x = record {
  limit = x.limit;
  dirty = rw x.dirty refl;
  reserved = rw x.reserved (sym (blocks_of-canceled d a.group a.plan whole));
}

pub syncs_are_shown : (s : State) (d : DirtyBytes) (group : ℕ) (plan : SyncPlan) → ShowsSums s.shown d → ShowsSums (state_after_sync group plan s).shown (after_synced group d)
syncs_are_shown s d group plan x = record {
  limit = x.limit;
  dirty = ap (λ m. finite.remove m group) x.dirty;
  reserved = ap (λ m. finite.remove m group) x.reserved ∙ sym (blocks_of-remove d.sums group);
}

-- the totals of a pool that shows the sums of its line
module _ (s : Shown) (d : DirtyBytes) (line : IsLine s.line) (on : AreSumsOn s.line d) (x : ShowsSums s d) where
  dirty-shown : (group : ℕ) → dirty_of s group ≡ sum_of d group
  dirty-shown group = ap (λ m. unwrap_or (finite.get m group) 0) x.dirty

  reserved-shown : (group : ℕ) → reserved_of s group ≡ blocks_in (sum_of d group)
  reserved-shown group = ap (λ m. unwrap_or (finite.get m group) 0) x.reserved ∙ block_sum d.sums group

  total-shown : dirty_total s ≡ total_of d
  total-shown = sym (totals_agree s d line (record { synced = on.synced; dirty = λ group above. dirty-shown group; not_open_yet = on.not_open_yet }))

  pub same_totals : SameTotals s d
  same_totals = record {
    dirty = total-shown;
    reserved =
        ap (λ f. sum_by f (unsynced_groups s.line)) (λ i group. reserved-shown group i)
        ∙ blocks_in-sum (sum_of d) (unsynced_groups s.line) on.blocks.each
        ∙ ap (λ f. blocks_in (sum_by f (unsynced_groups s.line))) (λ i group. sym (dirty-shown group) i)
        ∙ ap blocks_in total-shown;
    throttled = λ charge. rw (x.limit, total-shown) refl;
  }

-- what a group's sum is once another sum is set
sum_of-with : (d : DirtyBytes) (group n q : ℕ) (P : ℕ → Type 0) → P n → P (sum_of d q) → P (unwrap_or (finite.get (with_sum group n d.sums) q) 0)
sum_of-with d group n q P own other = by (cases_eq q group)
  where
    by : (q ≡ group) ⊎ (q ≢ group) → P (unwrap_or (finite.get (with_sum group n d.sums) q) 0)
    by (inl same) = subst P (sym (ap (λ g. unwrap_or (finite.get (with_sum group n d.sums) g) 0) same ∙ ap (λ o. unwrap_or o 0) (get-with_sum_own group n d.sums) ∙ unwrap_or-entry_of n)) own
    by (inr apart) = subst P (sym (ap (λ o. unwrap_or o 0) (get-with_sum_other group n d.sums q apart))) other

sum_of-without : (d : DirtyBytes) (group q : ℕ) (P : ℕ → Type 0) → P 0 → P (sum_of d q) → P (unwrap_or (finite.get (finite.remove d.sums group) q) 0)
sum_of-without d group q P none other = by (cases_eq q group)
  where
    by : (q ≡ group) ⊎ (q ≢ group) → P (unwrap_or (finite.get (finite.remove d.sums group) q) 0)
    by (inl same) = subst P (sym (ap (λ g. unwrap_or (finite.get (finite.remove d.sums group) g) 0) same ∙ ap (λ o. unwrap_or o 0) (get-removed d.sums group))) none
    by (inr apart) = subst P (sym (ap (λ o. unwrap_or o 0) (get-removed_other d.sums group q apart))) other

-- a group that may have open transactions is one of the three
pub holding_groups_are_charged : (l : Line) (d : DirtyBytes) (group : ℕ) → IsLine l → AreSumsOn l d → MayHold l group → MayBeUnsynced d group × (group ≤ l.open_group)
holding_groups_are_charged l d group line on may =
    let above : (l.synced < group) × (group ≤ l.open_group) = held_above l group line may in
    let same : l.synced ≡ d.synced = on.synced in
    let low : l.open_group ≤ l.synced + 3 = open_within l line in
    ((omega arith, omega arith), above.1)

-- the sums stay those of a line
module _ (l : Line) (d : DirtyBytes) (on : AreSumsOn l d) where
  stay-admit : (group : ℕ) (plan : List Shape) → group ≤ l.open_group → AreSumsOn l (after_admit group (charge_of plan) d)
  stay-admit group plan low = record {
    synced = on.synced;
    not_open_yet = λ q above. rw (get-with_sum_other group (sum_of d group + charge_of plan) d.sums q (λ same. omega arith)) (on.not_open_yet q above);
    blocks = record {
      each = λ q. sum_of-with d group (sum_of d group + charge_of plan) q (λ n. n % block_size ≡ 0) (whole-charged (sum_of d group) (estimate_of plan) (on.blocks.each group)) (on.blocks.each q);
    };
  }

  stay-cancel : (group : ℕ) (plan : List Shape) → AreSumsOn l (after_cancel group (charge_of plan) d)
  stay-cancel group plan = record {
    synced = on.synced;
    not_open_yet = λ q above. not_open q above (cases_eq q group);
    blocks = record {
      each = λ q. sum_of-with d group (sum_of d group - charge_of plan) q (λ n. n % block_size ≡ 0) (whole-canceled (sum_of d group) (estimate_of plan) (on.blocks.each group)) (on.blocks.each q);
    };
  }
    where
      not_open : (q : ℕ) → l.open_group < q → (q ≡ group) ⊎ (q ≢ group) → sum_of (after_cancel group (charge_of plan) d) q ≡ 0
      not_open q above (inl same) =
          let none : sum_of d group ≡ 0 = on.not_open_yet group (omega arith) in
          ap (λ g. unwrap_or (finite.get (with_sum group (sum_of d group - charge_of plan) d.sums) g) 0) same
          ∙ ap (λ o. unwrap_or o 0) (get-with_sum_own group (sum_of d group - charge_of plan) d.sums) ∙ unwrap_or-entry_of (sum_of d group - charge_of plan) ∙ omega (arith, none)
      not_open q above (inr apart) = rw (get-with_sum_other group (sum_of d group - charge_of plan) d.sums q apart) (on.not_open_yet q above)

  pub sums_stay_on_lines : StaySumsOn l d
  sums_stay_on_lines = record {
    admit = stay-admit;
    cancel = stay-cancel;
    moved = λ next same higher. record { synced = same ∙ on.synced; not_open_yet = λ q above. on.not_open_yet q (omega arith); blocks = on.blocks };
    synced = λ next higher. record {
      synced = refl;
      not_open_yet = λ q above. sum_of-without d next.synced q (λ n. n ≡ 0) refl (on.not_open_yet q (omega arith));
      blocks = record { each = λ q. sum_of-without d next.synced q (λ n. n % block_size ≡ 0) (omega arith) (on.blocks.each q) };
    };
  }

pub new_sums_are_on_lines : (l : Line) (limit : ℕ) → AreSumsOn l (dirty_behind limit l.synced)
new_sums_are_on_lines l limit = record {
  synced = refl;
  not_open_yet = λ q above. ap (λ o. unwrap_or o 0) (get-empty nat_cmp q);
  blocks = record { each = λ q. rw (get-empty nat_cmp q) (omega arith) };
}
