-- What holds of the dirty bytes beside the tables of a running pool.
use Rattle.std.specs.Prelude.{ℕ, ◌≡◌, ◌≢◌, ◌+◌, ◌-◌, ◌<◌, ◌≤◌, ◌++◌, ◌∷◌, true, List, [], Some, option_map, nat_lt, slice_get}
use Rattle.std.specs.Ordering.{nat_cmp}
use Rattle.std.specs.FinMap as finite
use Rattle.std.specs.FinMap.{FinMap}
use Rattle.base.specs.declared.operation.Shape.{Shape}
use Rattle.base.specs.history.Plans.{is_plan_allowed, estimate_of, charge_of}
use Rattle.base.specs.steps.Charges.{with_sum}
use Rattle.base.specs.steps.Groups.{Line, IsLine, Admission, MayHold}
use Rattle.base.specs.steps.Shown.{Shown, SyncPlan, dirty_of, dirty_total, reserved_total}
use Rattle.base.specs.steps.Steps.{State, state_after_abort, state_after_charged_admission, state_after_sync, transactions_without}
use Rattle.throttle.specs.Blocks.{blocks_in, blocks_of, block_sum_of, AreOpenOnesCharged, AreSumsOn, AreWholeBlocks, ShowsSums}
use Rattle.throttle.specs.DirtyBytes.{DirtyBytes, AreWithinLimit, MayBeUnsynced, sum_of, total_of, is_throttled, dirty_behind, after_admit, after_cancel, after_synced}

-- the sums are those of a pool: the groups after its open one have none
pub record AreSumsOf (s : Shown) (d : DirtyBytes) : Type 0 where
  pub synced : s.line.synced ≡ d.synced
  pub dirty : (group : ℕ) → s.line.synced < group → dirty_of s group ≡ sum_of d group
  pub not_open_yet : (group : ℕ) → s.line.open_group < group → sum_of d group ≡ 0

-- so the totals are the same
abbrev pub TotalsAgree : Type 0
TotalsAgree = (s : Shown) (d : DirtyBytes) → IsLine s.line → AreSumsOf s d → total_of d ≡ dirty_total s

-- a charge that is taken back leaves the sums as they were before it
abbrev pub CancelsUndoAdmits : Type 0
CancelsUndoAdmits = (d : DirtyBytes) (group charge : ℕ) → AreWithinLimit d → after_cancel group charge (after_admit group charge d) ≡ d

-- the map of the sums gets an entry where bytes are charged
abbrev pub AdmitsAreEntered : Type 0
AdmitsAreEntered = (d : DirtyBytes) (group charge : ℕ) → 0 < charge
    → after_admit group charge d ≡ record d { sums = finite.insert d.sums group (sum_of d group + charge) }

-- a plan that is allowed asks for a block at least
abbrev pub PlansAskForBlocks : Type 0
PlansAskForBlocks = (plan : List Shape) → is_plan_allowed plan ≡ true → 0 < estimate_of plan

-- The blocks of sums: none of none, and for each sum its own. They follow the sums where a plan is admitted
-- or given up, and where a group is synced.
pub record BlocksFollowSums : Type 0 where
  pub none : blocks_of finite.empty ≡ finite.empty
  pub each : (sums : FinMap nat_cmp ℕ) (group : ℕ) → finite.get (blocks_of sums) group ≡ option_map blocks_in (finite.get sums group)
  pub admitted : (d : DirtyBytes) (group : ℕ) (plan : List Shape) → is_plan_allowed plan ≡ true
      → blocks_of (after_admit group (charge_of plan) d).sums ≡ finite.insert (blocks_of d.sums) group (block_sum_of d group + estimate_of plan)
  pub canceled : (d : DirtyBytes) (group : ℕ) (plan : List Shape) → AreWholeBlocks d
      → blocks_of (after_cancel group (charge_of plan) d).sums ≡ with_sum group (block_sum_of d group - estimate_of plan) (blocks_of d.sums)
  pub synced : (sums : FinMap nat_cmp ℕ) (group : ℕ) → blocks_of (finite.remove sums group) ≡ finite.remove (blocks_of sums) group

-- what a pool shows before anything is charged
abbrev pub NewSumsAreShown : Type 0
NewSumsAreShown = (s : Shown) → s.dirty ≡ finite.empty → s.reserved ≡ finite.empty → ShowsSums s (dirty_behind s.dirty_max s.line.synced)

-- the admission of an allowed plan shows its charge, and its estimate as reserved
abbrev pub AdmissionsAreShown : Type 0
AdmissionsAreShown = (s : State) (d : DirtyBytes) (a : Admission) → is_plan_allowed a.plan ≡ true → ShowsSums s.shown d
    → ShowsSums (state_after_charged_admission a s).shown (after_admit a.group (charge_of a.plan) d)

-- the end of a transaction that is given up shows its charge and its estimate no more
abbrev pub AbortsAreShown : Type 0
AbortsAreShown = (s : State) (d : DirtyBytes) (tx : ℕ) (a : Admission) → AreWholeBlocks d → ShowsSums s.shown d
    → ShowsSums (state_after_abort tx a s).shown (after_cancel a.group (charge_of a.plan) d)

-- the end of a group's sync shows neither its sum nor its blocks any more
abbrev pub SyncsAreShown : Type 0
SyncsAreShown = (s : State) (d : DirtyBytes) (group : ℕ) (plan : SyncPlan) → ShowsSums s.shown d
    → ShowsSums (state_after_sync group plan s).shown (after_synced group d)

-- the totals of a pool that shows the sums of its line are theirs
pub record SameTotals (s : Shown) (d : DirtyBytes) : Type 0 where
  pub dirty : dirty_total s ≡ total_of d
  pub reserved : reserved_total s ≡ blocks_in (total_of d)
  pub throttled : (charge : ℕ) → nat_lt s.dirty_max (dirty_total s + charge) ≡ is_throttled charge d

abbrev pub ShownTotalsAgree : Type 0
ShownTotalsAgree = (s : Shown) (d : DirtyBytes) → IsLine s.line → AreSumsOn s.line d → ShowsSums s d → SameTotals s d

-- bytes may be charged to a group that may have open transactions
abbrev pub HoldingGroupsAreCharged : Type 0
HoldingGroupsAreCharged = (l : Line) (d : DirtyBytes) (group : ℕ) → IsLine l → AreSumsOn l d → MayHold l group
    → MayBeUnsynced d group × (group ≤ l.open_group)

-- nothing is charged at first
abbrev pub NewSumsAreOnLines : Type 0
NewSumsAreOnLines = (l : Line) (limit : ℕ) → AreSumsOn l (dirty_behind limit l.synced)

-- the sums stay those of the line: with the charge of a plan, and without it again
pub record StaySumsOn (l : Line) (d : DirtyBytes) : Type 0 where
  pub admit : (group : ℕ) (plan : List Shape) → group ≤ l.open_group → AreSumsOn l (after_admit group (charge_of plan) d)
  pub cancel : (group : ℕ) (plan : List Shape) → AreSumsOn l (after_cancel group (charge_of plan) d)
  -- and those of a line whose open group is no lower, with the same synced group or with the next one
  pub moved : (next : Line) → next.synced ≡ l.synced → l.open_group ≤ next.open_group → AreSumsOn next d
  pub synced : (next : Line) → l.open_group ≤ next.open_group → AreSumsOn next (after_synced next.synced d)

abbrev pub SumsStayOnLines : Type 0
SumsStayOnLines = (l : Line) (d : DirtyBytes) → AreSumsOn l d → StaySumsOn l d

-- The groups stay charged for the open transactions: for one more that is charged, for the others once one has ended,
-- for the others without the charge of one that is given up, and once a group is synced of which none is open.
pub record StayCharged (transactions : List Admission) (d : DirtyBytes) : Type 0 where
  pub admitted : (a : Admission) → AreOpenOnesCharged (transactions ++ a ∷ []) (after_admit a.group (charge_of a.plan) d)
  pub ended : (tx : ℕ) → AreOpenOnesCharged (transactions_without tx transactions) d
  pub charged : (i : ℕ) (a : Admission) → slice_get transactions i ≡ Some a → charge_of a.plan ≤ sum_of d a.group
  pub canceled : (i : ℕ) (a : Admission) → slice_get transactions i ≡ Some a
      → AreOpenOnesCharged (transactions_without a.tx transactions) (after_cancel a.group (charge_of a.plan) d)
  pub synced : (group : ℕ) → ((i : ℕ) (a : Admission) → slice_get transactions i ≡ Some a → a.group ≢ group)
      → AreOpenOnesCharged transactions (after_synced group d)

abbrev pub OpenOnesStayCharged : Type 0
OpenOnesStayCharged = (transactions : List Admission) (d : DirtyBytes) → AreOpenOnesCharged transactions d → StayCharged transactions d
