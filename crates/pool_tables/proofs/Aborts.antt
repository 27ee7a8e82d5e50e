-- An abort, step by step: the transaction that it gives up ends with its hold, its charge and its reservation.
use Rattle.std.proofs.Common.{ℕ, ◌≡◌, ◌+◌, ◌-◌, ◌<◌, ◌≤◌, true, false, List, [], ◌∷◌, ◌++◌, refl, sym, subst, ◌∙◌, arith}
use Rattle.std.specs.Prelude.{Some, None, Ok, Err}
use Rattle.base.specs.declared.error.PoolError.TheVariants as error
use Rattle.base.specs.history.Plans.{charge_of, estimate_of, is_plan_allowed}
use Rattle.base.specs.steps.Groups.{AreNamedApart, Admission}
use Rattle.base.specs.steps.Refusals.{abort_refusal, transaction_of}
use Rattle.base.specs.steps.Shown.{Shown}
use Rattle.base.specs.steps.Steps.{Abort, State, state_after_abort, transactions_without}
use Rattle.groups.specs.CountedLines.{holds_of}
use Rattle.throttle.specs.Blocks.{AreOpenOnesCharged, AreSumsOn, ShowsSums, blocks_in, blocks_of}
use Rattle.throttle.specs.DirtyBytes.{DirtyBytes, MayBeUnsynced, after_cancel, sum_of, total_of}
use Rattle.throttle.proofs.OpenCharges.{stay_charged}
use Rattle.throttle.proofs.ShownSums.{aborts_are_shown, holding_groups_are_charged}
use Rattle.transactions.specs.Open.{Open, admission_of_name}
use Rattle.transactions.proofs.OpenChanges.{all_stay}
use Rattle.pool_tables.specs.declared.pool.PoolTables.{PoolTables}
use Rattle.pool_tables.specs.Meets.{Meets}
use Rattle.pool_tables.proofs.HeldGroups.{has_hold, may_hold}
use Rattle.pool_tables.proofs.Opens.{IsSmall, found_allowed, found_index, found_name, found_small}

pub abort_suspended : (tx : ℕ) (s : Shown) → s.suspended ≡ true → Meets (Abort tx) (Err error.Suspended) s s
abort_suspended tx s h = λ past. (past, rw h (refl, refl))

pub abort_none : (tx : ℕ) (s : Shown) → s.suspended ≡ false → transaction_of tx s ≡ None → Meets (Abort tx) (Err error.NoSuchTransaction) s s
abort_none tx s h none = λ past. (past, let e : abort_refusal tx s ≡ Some error.NoSuchTransaction = rw (h, none) refl in rw e (refl, refl))

-- what is shown after it has the sums without its charge, and their blocks
pub abort_done : (tx : ℕ) (a : Admission) (s n : Shown) (d : DirtyBytes) → s.suspended ≡ false → transaction_of tx s ≡ Some a → AreSumsOn s.line d → ShowsSums s d
    → n ≡ record s {
      transactions = transactions_without tx s.transactions;
      dirty = (after_cancel a.group (charge_of a.plan) d).sums;
      reserved = blocks_of (after_cancel a.group (charge_of a.plan) d).sums;
    } → Meets (Abort tx) (Ok tt) s n
abort_done tx a s n d h found on shows same = λ past.
    let before : State = record { shown = s; past = past } in
    let charged = aborts_are_shown before d tx a on.blocks shows in
    let none : abort_refusal tx s ≡ None = rw (h, found) refl in
    let all : n ≡ (state_after_abort tx a before).shown =
    same ∙ (λ k. record s { transactions = transactions_without tx s.transactions; dirty = sym charged.dirty k; reserved = sym charged.reserved k }) in
    (record past { aborted = past.aborted ++ tx ∷ [] }, rw none (a, found, λ k. record { shown = all k; past = record past { aborted = past.aborted ++ tx ∷ [] } }))

-- where none has this name all stay open
pub none_ended : (tx : ℕ) (old new : Open) → admission_of_name tx old.transactions ≡ None → new.transactions ≡ transactions_without tx old.transactions → new.next ≡ old.next → new ≡ old
none_ended tx old new none others next = λ k. record { transactions = (others ∙ all_stay tx old.transactions none) k; next = next k }

-- the open transaction of a name
module _ (p : PoolTables) (tx : ℕ) (a : Admission) (found : admission_of_name tx p.transactions.transactions ≡ Some a) where
  abbrev ts : List Admission
  ts = p.transactions.transactions

  pub ended_allowed : is_plan_allowed a.plan ≡ true
  ended_allowed = found_allowed tx ts a found p.accounted.plans_allowed

  pub ended_small : IsSmall a
  ended_small = found_small tx ts a found p.accounted.plans_small

  -- its group has its hold, is one of those that are charged, and is charged for it
  pub ended_held : AreNamedApart ts → 0 < holds_of p.groups a.group
  ended_held apart = has_hold ts p.groups tx a a.group p.accounted.holds_exact apart found refl

  pub ended_unsynced : AreNamedApart ts → MayBeUnsynced p.dirty a.group
  ended_unsynced apart = (holding_groups_are_charged p.groups.line p.dirty a.group p.accounted.counted.line p.accounted.charged (may_hold p.groups p.accounted.counted a.group (ended_held apart))).0

  pub ended_charged : charge_of a.plan ≤ sum_of p.dirty a.group
  ended_charged = let at = found_index tx ts a found in (stay_charged ts p.dirty p.accounted.open_charged).charged at.0 a at.1

  -- without it the groups are charged for the others
  pub others_charged : AreOpenOnesCharged (transactions_without tx ts) (after_cancel a.group (charge_of a.plan) p.dirty)
  others_charged =
      let at = found_index tx ts a found in
      subst (λ n. AreOpenOnesCharged (transactions_without n ts) (after_cancel a.group (charge_of a.plan) p.dirty)) (found_name tx ts a found) ((stay_charged ts p.dirty p.accounted.open_charged).canceled at.0 a at.1)

  -- its blocks are reserved, and those of the others are left
  module _ (rest : ℕ) (is : rest + charge_of a.plan ≡ total_of p.dirty) where
    pub ended_reserved : estimate_of a.plan ≤ p.free.reserved
    ended_reserved = omega (arith, p.free_counted.reserved, is)

    pub others_reserved : p.free.reserved - estimate_of a.plan ≡ blocks_in rest
    others_reserved = omega (arith, p.free_counted.reserved, is)
