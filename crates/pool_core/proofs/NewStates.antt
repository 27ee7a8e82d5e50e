-- The state that an import gives is held by its device, with a past in which nothing happened.
use Rattle.std.proofs.Common.{◌≡◌, ◌<◌, ◌≤◌, inl, inr, ℕ, zero, suc, List, [], ◌∷◌, length, nat_lt, refl, sym, subst, true}
use Rattle.std.proofs.Math.Logic.{∥∥₁_elim}
use Rattle.std.specs.Coded.{×_prop, Π_prop, Unit-prop, le_prop}
use Rattle.std.specs.FinMap as finite
use Rattle.std.specs.List.{list_all}
use Rattle.std.specs.Prelude.{IfSome, None, Option, Some, option_map, slice_get}
use Rattle.base.specs.formats.Geometry.{IsBlockAddress, block_count}
use Rattle.base.specs.formats.Limits.{max_length, object_count}
use Rattle.base.specs.history.Past.{new_past}
use Rattle.base.specs.steps.Exact.{IsInLog}
use Rattle.base.specs.steps.Shown.{Shown}
use Rattle.base.specs.kept.Stored.{IsHeld, IsStored}
use Rattle.base.specs.tree.Places.{IsInTree}
use Rattle.base.proofs.common.KeptLists.{none_at}
use Rattle.contents.specs.ContentsShown.{contents_of}
use Rattle.tree_blocks.specs.Pointers.{pointers_of}
use Rattle.tree_blocks.specs.ListedObjects.{AreWithin}
use Rattle.mounted.specs.declared.mounted.Mounted.{Mounted}
use Rattle.import_replay.specs.Mounts.{IsExplainedAnew, StandsOnDevice}
use Rattle.mounted.specs.ShownMounted.{shown_of_import}
use Rattle.import_replay.specs.ShownMounts.{LabelsShow}
use Rattle.pool_tables.specs.declared.pool.PoolTables.{PoolTables}
use Rattle.pool_tables.specs.Told.{held_with, new_tree_of, pool_told}
use Rattle.pool_core.specs.NewStates.{IsExplainedAtFirst, IsHeldAtFirst, first_past}
use Rattle.pool_tables.specs.Shows.{pool_shown}

-- one address has one place
one_place : (only i j address : ℕ) → slice_get (only ∷ []) i ≡ Some address → slice_get (only ∷ []) j ≡ Some address → i ≡ j
one_place only zero zero address at_i at_j = refl
one_place only zero (suc j) address at_i at_j = absurd (none_at j address at_j)
one_place only (suc i) j address at_i at_j = absurd (none_at i address at_i)

module _ (now : List ℕ) (created : ℕ) (m : Mounted) (sized : block_count m.geometry ≡ block_count (length now)) (on : StandsOnDevice now m) (shows : LabelsShow now m) (explained : IsExplainedAnew m) where
  -- its log has no block but the next one
  next_alone : (address : ℕ) → IsInLog (shown_of_import m).log address → address ≡ (shown_of_import m).log.next.address
  next_alone address (inl same) = same
  next_alone address (inr (i, b, at, is)) = absurd (none_at i b at)

  stored : IsStored now (shown_of_import m) (pointers_of m.contents.tree) (new_past (contents_of m.contents) created m.dirty_max)
  stored = record {
    synced = contents_of m.contents;
    replayed = refl;
    blocks = sized;
    tree = on.tree;
    root = refl;
    free = on.free;
    log_in_area = λ address in_log. subst (λ (a : ℕ). IsBlockAddress (shown_of_import m).blocks a) (sym (next_alone address in_log)) on.log_block;
    log_places = one_place (shown_of_import m).log.next.address;
    log_apart = λ address in_log is. on.log_apart (subst (λ (a : ℕ). IsInTree now (shown_of_import m).root a) (next_alone address in_log) is);
  }

  -- all of what a run asks for
  is_held : IsHeld (record {
    state = record { shown = shown_of_import m; past = new_past (contents_of m.contents) created m.dirty_max };
    now = now;
    pointers = pointers_of m.contents.tree;
    running = None;
  })
  is_held = record { explained = explained created; kept = record { stored = stored; sync = refl; geometry = shows.geometry; labels = shows.labels created; configs = shows.configs created } }

-- The contents that an import mounts are within the limits.
pub mounted_within : (m : Mounted) → ∥ IsExplainedAnew m ∥₁ → AreWithin (contents_of m.contents).objects
mounted_within m explained =
    ∥∥₁_elim explained (Π_prop (λ n. within_prop n (finite.get (contents_of m.contents).objects n))) (λ at n. of_bounded n (finite.get (contents_of m.contents).objects n) ((at 0).exact.bounded.objects n))
  where
    within_prop : (n : ℕ) (o : Option (List ℕ)) → IsProp (IfSome o (λ bytes. (n < object_count) × (length bytes ≤ max_length)))
    within_prop n None = Unit-prop
    within_prop n (Some bytes) = ×_prop le_prop le_prop

    of_bounded : (n : ℕ) (o : Option (List ℕ)) → IfSome o (λ bytes. (n < object_count) × (length bytes ≤ max_length) × (list_all (λ b. nat_lt b 256) bytes ≡ true))
        → IfSome o (λ bytes. (n < object_count) × (length bytes ≤ max_length))
    of_bounded n None bounded = tt
    of_bounded n (Some bytes) bounded = (bounded.0, bounded.1)

-- A pool that shows what an import mounted is explained by its own first past.
pub explained_as : (m : Mounted) (shown : Shown) → shown ≡ shown_of_import m → IsExplainedAnew m → IsExplainedAtFirst shown
explained_as m shown is explained = subst IsExplainedAtFirst (sym is) explained

-- And where it has the tree and no running sync, the device holds what it should.
pub held_as : (m : Mounted) (pool : PoolTables) (now : List ℕ) → pool_shown pool ≡ shown_of_import m → pool.synced.tree ≡ m.contents.tree → pool.sync ≡ None
    → block_count m.geometry ≡ block_count (length now) → StandsOnDevice now m → LabelsShow now m → IsExplainedAnew m → IsHeldAtFirst (pool_told pool now)
held_as m pool now shown tree idle sized on shows explained created =
    let same : held_with (pool_told pool now) (first_past (pool_shown pool) created)
    ≡ record { state = record { shown = shown_of_import m; past = new_past (contents_of m.contents) created m.dirty_max }; now = now; pointers = pointers_of m.contents.tree; running = None } = λ k.
    record { state = record { shown = shown k; past = first_past (shown k) created }; now = now; pointers = pointers_of (tree k); running = option_map (new_tree_of pool.synced.tree) (idle k) } in
    subst IsHeld (sym same) (is_held now created m sized on shows explained)
