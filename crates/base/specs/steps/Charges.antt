-- What transactions are charged, and which blocks they may still take.
use Rattle.std.specs.Prelude.{ℕ, zero, suc, ◌-◌, ◌==◌, ◌&&◌, not, List, filter, sum_by, nat_lt}
use Rattle.std.specs.Ordering.{nat_cmp}
use Rattle.std.specs.FinMap as finite
use Rattle.std.specs.FinMap.{FinMap}
use Rattle.base.specs.history.Plans.{estimate_of, charge_of}
use Rattle.base.specs.steps.Groups.{Admission}
use Rattle.base.specs.steps.Locks.{is_in}

-- the open and committed transactions of a group
abbrev pub transactions_of : ℕ → List Admission → List ℕ → List Admission
transactions_of group admissions aborted = filter (λ (a : Admission). (a.group == group) && not (is_in a.tx aborted)) admissions

-- those of all groups above the synced one
abbrev pub unsynced_transactions : ℕ → List Admission → List ℕ → List Admission
unsynced_transactions synced admissions aborted = filter (λ (a : Admission). nat_lt synced a.group && not (is_in a.tx aborted)) admissions

abbrev pub charge_sum : List Admission → ℕ
charge_sum admissions = sum_by (λ (a : Admission). charge_of a.plan) admissions

abbrev pub estimate_sum : List Admission → ℕ
estimate_sum admissions = sum_by (λ (a : Admission). estimate_of a.plan) admissions

-- the sums of groups where that of one group is this one; a group without a sum has no entry
unfoldable pub with_sum : ℕ → ℕ → FinMap nat_cmp ℕ → FinMap nat_cmp ℕ
with_sum group zero sums = finite.remove sums group
with_sum group (suc n) sums = finite.insert sums group (suc n)

-- the free blocks that no unsynced transaction may still ask for
abbrev pub available_of : ℕ → ℕ → ℕ → ℕ
available_of free reserved taken = free - (reserved - taken)
