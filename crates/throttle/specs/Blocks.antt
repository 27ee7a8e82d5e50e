-- The blocks that the dirty bytes stand for. Each unsynced group has as many reserved as it is charged for, so no count
-- of them is stored.
use Rattle.std.specs.Prelude.{ℕ, ◌≡◌, ◌<◌, ◌≤◌, ◌/◌, ◌%◌, ◌==◌, List, map, sum_by, unwrap_or, if◌then◌else◌}
use Rattle.std.specs.Ordering.{nat_cmp}
use Rattle.std.specs.FinMap as finite
use Rattle.std.specs.FinMap.{FinMap}
use Rattle.base.specs.formats.Geometry.{block_size}
use Rattle.base.specs.history.Plans.{charge_of}
use Rattle.base.specs.steps.Groups.{Line, Admission}
use Rattle.base.specs.steps.Shown.{Shown}
use Rattle.throttle.specs.DirtyBytes.{DirtyBytes, sum_of}

-- how many blocks so many bytes fill
abbrev pub blocks_in : ℕ → ℕ
blocks_in bytes = bytes / block_size

-- the blocks of each group that has a sum
unfoldable pub blocks_of : FinMap nat_cmp ℕ → FinMap nat_cmp ℕ
blocks_of sums = finite.from_entries (map (λ (e : ℕ × ℕ). (e.0, blocks_in e.1)) (finite.entries sums))

-- those of one group
abbrev pub block_sum_of : DirtyBytes → ℕ → ℕ
block_sum_of d group = unwrap_or (finite.get (blocks_of d.sums) group) 0

-- every sum is of whole blocks
pub record AreWholeBlocks (d : DirtyBytes) : Type 0 where
  pub each : (group : ℕ) → sum_of d group % block_size ≡ 0

-- the sums are of whole blocks, and of the groups of a line: those after its open group have none
pub record AreSumsOn (l : Line) (d : DirtyBytes) : Type 0 where
  pub synced : l.synced ≡ d.synced
  pub not_open_yet : (group : ℕ) → l.open_group < group → sum_of d group ≡ 0
  pub blocks : AreWholeBlocks d

-- what a group is charged for a transaction, and for all open ones
abbrev pub charge_in : ℕ → Admission → ℕ
charge_in group a = if a.group == group then charge_of a.plan else 0

abbrev pub open_charge : ℕ → List Admission → ℕ
open_charge group transactions = sum_by (charge_in group) transactions

-- each group is charged for its open transactions at least
abbrev pub AreOpenOnesCharged : List Admission → DirtyBytes → Type 0
AreOpenOnesCharged transactions d = (group : ℕ) → open_charge group transactions ≤ sum_of d group

-- a pool shows these sums, and their blocks as reserved
pub record ShowsSums (s : Shown) (d : DirtyBytes) : Type 0 where
  pub limit : s.dirty_max ≡ d.limit
  pub dirty : s.dirty ≡ d.sums
  pub reserved : s.reserved ≡ blocks_of d.sums
