-- What the tables of a pool owe to one another: holds and charges to the open transactions, reserved blocks to the
-- charges.
use Rattle.std.specs.Prelude.{ℕ, ◌≡◌, ◌≤◌, true, All, List}
use Rattle.base.specs.formats.Limits.{max_log_record}
use Rattle.base.specs.history.Plans.{is_plan_allowed, log_record_size}
use Rattle.base.specs.steps.Groups.{Admission}
use Rattle.groups.specs.CountedLines.{CountedLine, IsCounted}
use Rattle.groups.specs.Laws.{AreHoldsExact}
use Rattle.space.specs.FreeSets.{FreeSpace}
use Rattle.throttle.specs.Blocks.{AreOpenOnesCharged, AreSumsOn, blocks_in}
use Rattle.throttle.specs.DirtyBytes.{DirtyBytes}

-- the plans of the open transactions are allowed and fit a log record, and each transaction holds its group and is
-- charged to it
pub record AreAccounted (transactions : List Admission) (groups : CountedLine) (dirty : DirtyBytes) : Type 0 where
  pub counted : IsCounted groups
  pub holds_exact : AreHoldsExact transactions groups
  pub charged : AreSumsOn groups.line dirty
  pub open_charged : AreOpenOnesCharged transactions dirty
  pub plans_allowed : All (λ (a : Admission). is_plan_allowed a.plan ≡ true) transactions
  pub plans_small : All (λ (a : Admission). log_record_size a.plan ≤ max_log_record) transactions

-- the free set of an area of so many blocks, of which a running sync took some, while so many bytes are charged
pub record IsFreeSetOf (blocks taken_blocks charged : ℕ) (free : FreeSpace) : Type 0 where
  pub sized : free.blocks ≡ blocks
  pub taken : free.taken ≡ taken_blocks
  pub reserved : free.reserved ≡ blocks_in charged
