-- What a sync has written so far.
use Rattle.std.specs.Prelude.{ℕ, ◌≡◌, ◌+◌, ◌*◌, ◌<◌, ◌≤◌, List, [], map, Option, Some, nat_eq, length, slice_get, slice_index}
use Rattle.std.specs.List.{IsDistinct}
use Rattle.base.specs.formats.Fields.{part}
use Rattle.base.specs.disk.Disk.{Moment, bytes_of, IsInRange}
use Rattle.base.specs.formats.Geometry.{block_address, block_area, block_count, block_size}
use Rattle.tree_plans.specs.declared.planner.PlannedBlock.{PlannedBlock}
use Rattle.sync.specs.declared.run.SyncRun.{SyncRun}
use Rattle.sync.specs.Calls.{Target, target_of, calls_of}
use Rattle.sync.specs.Runs.{call_count}

-- the targets of a sync's calls, in order; a flush has none
abbrev pub targets_of : SyncRun → List (Option Target)
targets_of run = map (target_of run) (calls_of run)

-- this is the target of the k-th call
abbrev pub IsTarget : List (Option Target) → ℕ → Target → Type 0
IsTarget targets k t = slice_get targets k ≡ Some (Some t)

-- Of these targets the first so many are written, and no other byte: each written target has its bytes, and each byte
-- outside of them is as in the base.
pub record AreWritten (base : List ℕ) (targets : List (Option Target)) (done : ℕ) (image : List ℕ) : Type 0 where
  pub size : length image ≡ length base
  pub each : (k : ℕ) (t : Target) → k < done → IsTarget targets k t → part image t.place t.size ≡ t.content
  pub others : (i : ℕ) → ((k : ℕ) (t : Target) → k < done → IsTarget targets k t → IsInRange t.place t.size i → ⊥) → slice_index image i ≡ slice_index base i

-- the image is the base with what the sync has written so far
abbrev pub HasMade : List ℕ → SyncRun → List ℕ → Type 0
HasMade base run image = AreWritten base (targets_of run) run.done image

-- no two blocks have one place
abbrev pub HasDistinctBlocks : SyncRun → Type 0
HasDistinctBlocks run = IsDistinct nat_eq (map (λ (b : PlannedBlock). b.index) run.blocks.items)

-- As before, what a sync has written is all that is (if no two blocks have one place). After the last call nothing is
-- unflushed.
pub record KeepsWritten (old new : SyncRun) (before after : Moment) : Type 0 where
  pub made : HasDistinctBlocks old → (base : List ℕ) → HasMade base old (bytes_of before) → HasMade base new (bytes_of after)
  pub settled : new.done ≡ call_count new → after.unflushed ≡ []

-- Of the block area these bytes have changed: the first so many blocks stand in it, and each other byte is as in the
-- base.
pub record BlocksWritten (base : List ℕ) (size : ℕ) (blocks : List PlannedBlock) (done : ℕ) (image : List ℕ) : Type 0 where
  pub each : (k : ℕ) (b : PlannedBlock) → k < done → slice_get blocks k ≡ Some b → part image (block_address b.index) block_size ≡ b.block
  pub others : (i : ℕ) → block_area ≤ i → i < block_area + block_size * block_count size
      → ((k : ℕ) (b : PlannedBlock) → k < done → slice_get blocks k ≡ Some b → IsInRange (block_address b.index) block_size i → ⊥) → slice_index image i ≡ slice_index base i
