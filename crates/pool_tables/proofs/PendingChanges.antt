-- The changes of the unsynced groups stay those of their pending operations with each transaction that is entered.
use Rattle.std.proofs.Common.{◌≡◌, ℕ, ◌+◌, ◌<◌, ◌≢◌, Bool, List, [], ◌∷◌, ◌++◌, Option, Some, None, true, false, refl, ap, sym, subst, ◌∙◌, arith, ◌⊎◌, inl, inr}
use Rattle.std.specs.Prelude.{IfSome, cond, filter, flat_map, option_map, unwrap_or, ◌==◌}
use Rattle.std.specs.Option.{option_map_or}
use Rattle.std.proofs.lemmas.Bool.{cases_eq, eq-eqb, ne_eqb}
use Rattle.std.proofs.lemmas.Grind.{flat_map-append}
use Rattle.std.proofs.lemmas.List.{append-nil}
use Rattle.std.proofs.lemmas.List.Elements.{filter-append}
use Rattle.base.specs.declared.operation.Op.{Op}
use Rattle.base.specs.history.Contents.{name_given_by_all}
use Rattle.base.proofs.history.Names.{given-append}
use Rattle.base.proofs.steps.KeptGroups.{held_above, held_above_sync}
use Rattle.extents.specs.declared.extents.Extents.{Extents}
use Rattle.unsynced_extents.specs.declared.unsynced.UnsyncedExtents.{UnsyncedExtents}
use Rattle.extents.specs.Patches.{ArePatchesOf, laid_over, no_patch}
use Rattle.extents.specs.Synced.{patched_contents}
use Rattle.extents.specs.Tables.{name_of, patches_of}
use Rattle.unsynced_extents.specs.Unsynced.{AppliesAt, KeepsOtherPlaces, LeavesChanges, changes_at, extents_at, laid_all, name_at, name_over}
use Rattle.extents.proofs.SamePatches.{changes_added, changes_left}
use Rattle.unsynced_extents.proofs.GroupEntries.{sized_at}
use Rattle.groups.specs.CountedLines.{holds_of}
use Rattle.groups.proofs.HoldCounts.{has_hold}
use Rattle.records.specs.declared.record.Record.{Record}
use Rattle.tree_plans.specs.Marks.{pending_ops}
use Rattle.pool_tables.specs.declared.pool.PoolTables.{PoolTables}
use Rattle.pool_tables.specs.declared.pool.RunningSync.{RunningSync}
use Rattle.pool_tables.specs.Entries.{IsUnsynced}
use Rattle.pool_tables.specs.Meets.{MayCommit}
use Rattle.pool_tables.specs.Unsynced.{AreChangesOfUnsynced, AreNamesOfUnsynced}
use Rattle.intent_log.specs.Kept.{RunLog, log_shown}
use Rattle.pool_tables.specs.Shows.{contents_after_oldest, plan_of, pool_shown, synced_of}
use Rattle.pool_tables.proofs.HeldGroups.{may_hold}
use Rattle.pool_tables.proofs.Opens.{found_index}

-- the operations of a group, with a transaction more
pending_with : (group : ℕ) (pending : List Record) (c : Record)
    → pending_ops group (pending ++ c ∷ []) ≡ pending_ops group pending ++ cond (c.group.0 == group) (c.ops ++ []) []
pending_with group pending c =
    ap (flat_map (λ (x : Record). x.ops)) (filter-append (λ (x : Record). x.group.0 == group) pending (c ∷ []))
    ∙ flat_map-append (λ (x : Record). x.ops) (filter (λ (x : Record). x.group.0 == group) pending) (filter (λ (x : Record). x.group.0 == group) (c ∷ []))
    ∙ ap (λ (ops : List Op). pending_ops group pending ++ ops) (go (c.group.0 == group))
  where
    go : (is : Bool) → flat_map (λ (x : Record). x.ops) (cond is (c ∷ []) []) ≡ cond is (c.ops ++ []) []
    go true = refl
    go false = refl

-- the changes at another place are the same
pub kept_at : (place other : ℕ) (old new : UnsyncedExtents) → KeepsOtherPlaces place old new → other ≢ place → changes_at new other ≡ changes_at old other
kept_at place other old new others apart = ap (λ (e : Option Extents). option_map_or patches_of e (λ _. no_patch)) (others other apart)

pub kept_name_at : (place other : ℕ) (old new : UnsyncedExtents) → KeepsOtherPlaces place old new → other ≢ place → name_at new other ≡ name_at old other
kept_name_at place other old new others apart = ap (λ (e : Option Extents). option_map_or name_of e None) (others other apart)

pub changes_left_at : (synced : ℕ) (pending : List Record) (old new : UnsyncedExtents) → AreChangesOfUnsynced synced pending old → LeavesChanges old new → AreChangesOfUnsynced synced pending new
changes_left_at synced pending old new are same place low = changes_left (pending_ops (synced + 1 + place) pending) (changes_at old place) (changes_at new place) (are place low) (same.patches place)

pub names_left_at : (synced : ℕ) (pending : List Record) (old new : UnsyncedExtents) → AreNamesOfUnsynced synced pending old → LeavesChanges old new → AreNamesOfUnsynced synced pending new
names_left_at synced pending old new are same place low = same.names place ∙ are place low

pub changes_entered : (synced place : ℕ) (pending : List Record) (c : Record) (old new : UnsyncedExtents) → synced + 1 + place ≡ c.group.0 → AreChangesOfUnsynced synced pending old
    → AppliesAt place c.ops old new → KeepsOtherPlaces place old new → AreChangesOfUnsynced synced (pending ++ c ∷ []) new
changes_entered synced place pending c old new group are applied others other low = go (cases_eq other place)
  where
    go : (other ≡ place) ⊎ (other ≢ place) → ArePatchesOf (pending_ops (synced + 1 + other) (pending ++ c ∷ [])) (changes_at new other)
    go (inl e) =
        let own : c.group.0 ≡ synced + 1 + other = omega (arith, group, e) in
        rw (pending_with (synced + 1 + other) pending c, eq-eqb c.group.0 (synced + 1 + other) own, append-nil c.ops)
        (changes_added (pending_ops (synced + 1 + other) pending) c.ops (changes_at old other) (changes_at new other) (sized_at (extents_at old other)) (are other low) (rw e applied.patches))
    go (inr e) =
        let apart : c.group.0 ≢ synced + 1 + other = λ is. e (let h : synced + 1 + place ≡ synced + 1 + other = group ∙ is in omega arith) in
        rw (pending_with (synced + 1 + other) pending c, ne_eqb c.group.0 (synced + 1 + other) apart, append-nil (pending_ops (synced + 1 + other) pending))
        (subst (ArePatchesOf (pending_ops (synced + 1 + other) pending)) (sym (kept_at place other old new others e)) (are other low))

pub names_entered : (synced place : ℕ) (pending : List Record) (c : Record) (old new : UnsyncedExtents) → synced + 1 + place ≡ c.group.0 → AreNamesOfUnsynced synced pending old
    → AppliesAt place c.ops old new → KeepsOtherPlaces place old new → AreNamesOfUnsynced synced (pending ++ c ∷ []) new
names_entered synced place pending c old new group are applied others other low = go (cases_eq other place)
  where
    go : (other ≡ place) ⊎ (other ≢ place) → name_at new other ≡ name_given_by_all (pending_ops (synced + 1 + other) (pending ++ c ∷ [])) None
    go (inl e) =
        let own : c.group.0 ≡ synced + 1 + other = omega (arith, group, e) in
        let named : name_at new other ≡ name_given_by_all c.ops (name_at old other) = rw e applied.name in
        rw (pending_with (synced + 1 + other) pending c, eq-eqb c.group.0 (synced + 1 + other) own, append-nil c.ops, given-append (pending_ops (synced + 1 + other) pending) c.ops None)
        (named ∙ ap (name_given_by_all c.ops) (are other low))
    go (inr e) =
        let apart : c.group.0 ≢ synced + 1 + other = λ is. e (let h : synced + 1 + place ≡ synced + 1 + other = group ∙ is in omega arith) in
        rw (pending_with (synced + 1 + other) pending c, ne_eqb c.group.0 (synced + 1 + other) apart, append-nil (pending_ops (synced + 1 + other) pending))
        (kept_name_at place other old new others e ∙ are other low)

module _ (pool : PoolTables) (group : ℕ) (hold : 0 < holds_of pool.groups group) where
  -- a group with a hold is unsynced
  pub entered_behind : IsUnsynced pool.groups.line group
  entered_behind =
      let between = held_above pool.groups.line group pool.accounted.counted.line (may_hold pool.groups pool.accounted.counted group hold) in
      record { above = between.0; open_or_before = between.1 }

  -- and lies behind the one that is syncing, so what is entered in it leaves the changes of that one
  pub kept_oldest : (place : ℕ) (new : UnsyncedExtents) → pool.groups.line.synced + 1 + place ≡ group → (r : RunningSync) → pool.sync ≡ Some r → KeepsOtherPlaces place pool.changes new
      → (changes_at new 0 ≡ changes_at pool.changes 0) × (name_at new 0 ≡ name_at pool.changes 0)
  kept_oldest place new at r is others = (kept_at place 0 pool.changes new others apart, kept_name_at place 0 pool.changes new others apart)
    where
      syncing : pool.groups.line.syncing ≡ Some r.group.0
      syncing = sym pool.sync_line ∙ ap (λ (o : Option RunningSync). option_map (λ (x : RunningSync). x.group.0) o) is

      above : r.group.0 < group
      above = held_above_sync pool.groups.line group r.group.0 pool.accounted.counted.line (may_hold pool.groups pool.accounted.counted group hold) syncing

      next : r.group.0 ≡ pool.groups.line.synced + 1
      next = subst (λ (o : Option ℕ). IfSome o (λ g. g ≡ pool.groups.line.synced + 1)) syncing pool.accounted.counted.line.syncing

      apart : 0 ≢ place
      apart same = omega (arith, same, at, above, next)

-- a running sync has the same plan where the changes of its group stay
pub same_plan : (pool : PoolTables) (new : UnsyncedExtents)
    → ((r : RunningSync) → pool.sync ≡ Some r → (changes_at new 0 ≡ changes_at pool.changes 0) × (name_at new 0 ≡ name_at pool.changes 0))
    → option_map (plan_of pool.synced.tree (patched_contents (changes_at new 0) (name_at new 0) (synced_of pool))) pool.sync ≡ option_map (plan_of pool.synced.tree (contents_after_oldest pool)) pool.sync
same_plan pool new same = go pool.sync (λ r is. same r is)
  where
    go : (o : Option RunningSync) → ((r : RunningSync) → o ≡ Some r → (changes_at new 0 ≡ changes_at pool.changes 0) × (name_at new 0 ≡ name_at pool.changes 0))
        → option_map (plan_of pool.synced.tree (patched_contents (changes_at new 0) (name_at new 0) (synced_of pool))) o ≡ option_map (plan_of pool.synced.tree (contents_after_oldest pool)) o
    go None kept = refl
    go (Some r) kept = let both = kept r refl in λ k. Some (plan_of pool.synced.tree (patched_contents (both.0 k) (both.1 k) (synced_of pool)) r)

-- changes that say the same are the same at each place
pub same_changes : (old new : UnsyncedExtents) → LeavesChanges old new → (place : ℕ) → changes_at new place ≡ changes_at old place
same_changes old new same place = λ k n. record { basis = (same.patches place n).basis k; written = λ i. (same.patches place n).written i k }

-- so a pool shows the same with them, and with the same pending transactions
pub shown_left : (pool : PoolTables) (new : UnsyncedExtents) (log : RunLog) → LeavesChanges pool.changes new → log_shown log ≡ log_shown pool.log → record (pool_shown pool) {
  contents = record { name = name_over new pool.synced.name; objects = laid_all new (synced_of pool).objects };
  log = log_shown log;
  sync = option_map (plan_of pool.synced.tree (patched_contents (changes_at new 0) (name_at new 0) (synced_of pool))) pool.sync;
} ≡ pool_shown pool
shown_left pool new log same is =
    let at : (place : ℕ) → changes_at new place ≡ changes_at pool.changes place = same_changes pool.changes new same in
    let plan = same_plan pool new (λ r is. (at 0, same.names 0)) in
    λ k. record (pool_shown pool) {
      contents = record { name = unwrap_or (same.names 2 k) (unwrap_or (same.names 1 k) (unwrap_or (same.names 0 k) pool.synced.name)); objects = laid_over (at 2 k) (laid_over (at 1 k) (laid_over (at 0 k) (synced_of pool).objects)) };
      log = is k;
      sync = plan k;
    }

-- the group of a transaction that may commit is unsynced
pub committed_behind : (pool : PoolTables) (tx : ℕ) (ops : List Op) (group : ℕ) → MayCommit tx ops group (pool_shown pool) → IsUnsynced pool.groups.line group
committed_behind pool tx ops group may =
    let at = found_index tx pool.transactions.transactions may.admission may.found in
    let held : 0 < holds_of pool.groups may.admission.group = subst (λ n. 0 < n) (sym (pool.accounted.holds_exact may.admission.group)) (has_hold pool.transactions.transactions at.0 may.admission at.1) in
    entered_behind pool group (subst (λ g. 0 < holds_of pool.groups g) may.group_is held)
