-- What a pool shows as charged and as reserved is what its sums say, and its status tells it.
use Rattle.std.proofs.Common.{◌≡◌, ◌∙◌, ℕ, ◌+◌, ◌-◌, ◌%◌, ◌<◌, ◌≤◌, Bool, true, false, List, length, nat_lt, subst, ap, refl, sym, arith, inl}
use Rattle.std.proofs.lemmas.Bool.Decides.{nat_tests}
use Rattle.std.proofs.lemmas.Bool.{ltb-false}
use Rattle.std.proofs.lemmas.List.{length-map}
use Rattle.std.specs.FinMap.{get-empty}
use Rattle.std.specs.Ordering.{nat_cmp}
use Rattle.std.specs.Prelude.{Option, Some, None, option_map}
use Rattle.base.specs.declared.names.Group.{Group}
use Rattle.base.specs.declared.status.Status.{Status}
use Rattle.base.specs.declared.operation.Shape.{Shape}
use Rattle.base.specs.formats.Geometry.{block_address, block_size}
use Rattle.base.specs.history.Contents.{Contents}
use Rattle.base.specs.history.Plans.{charge_of, estimate_of}
use Rattle.base.specs.steps.Groups.{Middle}
use Rattle.base.specs.steps.Charges.{available_of}
use Rattle.base.specs.steps.Refusals.{blocks_wanted}
use Rattle.base.specs.steps.Shown.{Shown, available, dirty_total, free_count, status_of, taken_of}
use Rattle.space.specs.FreeSets.{available_in, is_short}
use Rattle.tree_plans.specs.declared.planner.PlannedBlock.{PlannedBlock}
use Rattle.groups.specs.CountedLines.{line_after_sync, middle_group, number_of}
use Rattle.throttle.specs.Blocks.{AreOpenOnesCharged, AreSumsOn, ShowsSums, blocks_in}
use Rattle.throttle.specs.DirtyBytes.{MayBeUnsynced, after_synced, dirty_behind, is_throttled, total_of}
use Rattle.throttle.specs.Laws.{SameTotals}
use Rattle.throttle.proofs.OpenCharges.{stay_charged}
use Rattle.throttle.proofs.ShownSums.{holding_groups_are_charged, same_totals, sums_stay_on_lines}
use Rattle.tree_blocks.specs.declared.tree.Tree.{Tree}
use Rattle.pool_tables.specs.declared.pool.PoolTables.{PoolTables}
use Rattle.pool_tables.specs.declared.pool.RunningSync.{RunningSync}
use Rattle.pool_tables.proofs.HeldGroups.{none_syncing}
use Rattle.pool_tables.proofs.syncs.SameSyncs.{taken_count}
use Rattle.pool_tables.proofs.UnsyncedChanges.{syncing_follows}
use Rattle.pool_tables.specs.Shows.{contents_after_oldest, plan_of, pool_shown}

-- the blocks of all sums are those of one of whole blocks and those of the rest
module _ (reserved total sum rest : ℕ) (reserved_is : reserved ≡ blocks_in total) (is : rest + sum ≡ total) (whole : sum % block_size ≡ 0) where
  pub blocks_within : blocks_in sum ≤ reserved
  blocks_within = omega (arith, reserved_is, is, whole)

  pub blocks_left : reserved - blocks_in sum ≡ blocks_in rest
  blocks_left = omega (arith, reserved_is, is, whole)

below : (n m : ℕ) → nat_lt n m ≡ true → n < m
below n m h = grind (arith, nat_tests)

-- fewer blocks are available than are wanted
pub short_of : (blocks kept wanted ready : ℕ) → blocks + kept ≡ wanted → ready < blocks → nat_lt ready blocks ≡ nat_lt ready wanted
short_of blocks kept wanted ready is few = subst (λ n. nat_lt ready blocks ≡ nat_lt ready n) is (grind (arith, nat_tests))

-- by those that are left
pub short_by : (blocks kept wanted ready : ℕ) → blocks + kept ≡ wanted → blocks ≤ ready → nat_lt (ready - blocks) kept ≡ nat_lt ready wanted
short_by blocks kept wanted ready is enough = subst (λ n. nat_lt (ready - blocks) kept ≡ nat_lt ready n) is (grind (arith, nat_tests))

-- nothing is charged at first
pub total-behind : (limit synced : ℕ) → total_of (dirty_behind limit synced) ≡ 0
total-behind limit synced = rw (get-empty nat_cmp (synced + 1), get-empty nat_cmp (synced + 1 + 1), get-empty nat_cmp (synced + 1 + 1 + 1)) refl

-- how many blocks a running sync has taken
length-taken : (tree : Tree) (contents : Contents) (sync : Option RunningSync) → length (taken_of (option_map (plan_of tree contents) sync)) ≡ taken_count sync
length-taken tree contents None = refl
length-taken tree contents (Some r) = length-map r.run.blocks.items (λ (b : PlannedBlock). block_address b.index)

module _ (p : PoolTables) where
  pub shows_sums : ShowsSums (pool_shown p) p.dirty
  shows_sums = record { limit = refl; dirty = refl; reserved = refl }

  pub pool_totals : SameTotals (pool_shown p) p.dirty
  pool_totals = same_totals (pool_shown p) p.dirty p.accounted.counted.line p.accounted.charged shows_sums

  -- what is available is what the free set says
  pub available_told : available_in p.free ≡ available (pool_shown p)
  available_told k = available_of (free_count (pool_shown p)) ((p.free_counted.reserved ∙ sym pool_totals.reserved) k) ((p.free_counted.taken ∙ sym (length-taken p.synced.tree (contents_after_oldest p) p.sync)) k)

  -- where a plan's blocks are available they may be reserved
  pub enough_free : (plan : List Shape) (count : ℕ) → count ≡ estimate_of plan → nat_lt (available (pool_shown p)) (blocks_wanted (pool_shown p).contents plan) ≡ false → is_short count 0 p.free ≡ true → ⊥
  enough_free plan count is enough short =
      let wanted : blocks_wanted (pool_shown p).contents plan ≤ available (pool_shown p) = ltb-false _ _ enough in
      let few : available_in p.free < count + 0 = below _ _ short in
      omega (arith, is, wanted, few, available_told)

  -- whether the charge of a plan is throttled
  pub charge_throttled : (plan : List Shape) (charge : ℕ) (told : Bool) → charge ≡ charge_of plan → told ≡ is_throttled charge p.dirty
      → nat_lt (pool_shown p).dirty_max (dirty_total (pool_shown p) + charge_of plan) ≡ told
  charge_throttled plan charge told is told_is = pool_totals.throttled (charge_of plan) ∙ ap (λ n. is_throttled n p.dirty) (sym is) ∙ sym told_is

  -- bytes may be charged to the open group
  pub open_charged : MayBeUnsynced p.dirty p.groups.line.open_group
  open_charged = (holding_groups_are_charged p.groups.line p.dirty p.groups.line.open_group p.accounted.counted.line p.accounted.charged (inl refl)).0

  -- the syncing group is the one after that of the sums
  pub syncing_next : (group : ℕ) → p.groups.line.syncing ≡ Some group → group ≡ p.dirty.synced + 1
  syncing_next group is = syncing_follows p.groups.line group p.accounted.counted.line is ∙ ap (λ n. n + 1) p.accounted.charged.synced

  -- and no open transaction is of it, so once it is synced the groups are charged for the open ones
  pub synced_open_charged : (group : ℕ) → p.groups.line.syncing ≡ Some group → AreOpenOnesCharged p.transactions.transactions (after_synced group p.dirty)
  synced_open_charged group is =
      (stay_charged p.transactions.transactions p.dirty p.accounted.open_charged).synced group (none_syncing p.groups p.accounted.counted p.transactions.transactions p.accounted.holds_exact group is)

  -- once it is synced the sums are those of the line then
  pub synced_charged : (group : ℕ) → AreSumsOn (line_after_sync group p.groups.line) (after_synced group p.dirty)
  synced_charged group = (sums_stay_on_lines p.groups.line p.dirty p.accounted.charged).synced (line_after_sync group p.groups.line) (omega arith)

-- groups that are told by their numbers
numbered : (o : Option Group) → o ≡ option_map (λ g. record { 0 = g }) (option_map number_of o)
numbered None = refl
numbered (Some group) = refl

middle_numbered : (o : Option Middle) → option_map (λ g. let named : Group = record { 0 = g } in named) (option_map (λ (m : Middle). m.group) o) ≡ option_map (λ (m : Middle). record { 0 = m.group }) o
middle_numbered None = refl
middle_numbered (Some m) = refl

-- a status that tells each group and sum
pub status_told : (s : Shown) (told : Status) → told.synced.0 ≡ s.line.synced → option_map number_of told.syncing ≡ s.line.syncing → option_map number_of told.middle ≡ middle_group s.line
    → told.open_group.0 ≡ s.line.open_group → told.dirty ≡ dirty_total s → told.free ≡ free_count s → told.available ≡ available s → told ≡ status_of s
status_told s told synced syncing middle opened dirty free open_to =
    let syncing_is : told.syncing ≡ option_map (λ g. record { 0 = g }) s.line.syncing = numbered told.syncing ∙ ap (λ (o : Option ℕ). option_map (λ g. record { 0 = g }) o) syncing in
    let middle_is : told.middle ≡ option_map (λ (m : Middle). record { 0 = m.group }) s.line.middle =
    numbered told.middle ∙ ap (λ (o : Option ℕ). option_map (λ g. record { 0 = g }) o) middle ∙ middle_numbered s.line.middle in
    λ k. record {
      synced = record { 0 = synced k };
      syncing = syncing_is k;
      middle = middle_is k;
      open_group = record { 0 = opened k };
      dirty = dirty k;
      free = free k;
      available = open_to k;
    }
