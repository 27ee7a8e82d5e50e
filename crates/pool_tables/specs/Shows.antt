-- What contracts show of a pool, read off its fields.
use Rattle.std.specs.Prelude.{ℕ, ◌-◌, ◌+◌, List, length, map, Option, option_map}
use Rattle.std.specs.FinMap.{FinMap}
use Rattle.std.specs.Ordering.{nat_cmp}
use Rattle.std.specs.FinSet as set
use Rattle.base.specs.declared.pointer.Pointer.{Pointer}
use Rattle.base.specs.formats.Geometry.{block_address, block_count}
use Rattle.base.specs.history.Contents.{Contents}
use Rattle.base.specs.formats.Chain.{Header}
use Rattle.base.specs.steps.Shown.{Shown, SyncPlan, listed}
use Rattle.intent_log.specs.Kept.{header_fields, log_shown}
use Rattle.extents.specs.Synced.{patched_contents}
use Rattle.unsynced_extents.specs.Unsynced.{changes_at, laid_all, name_at, name_over}
use Rattle.tree_blocks.specs.declared.tree.Tree.{Tree}
use Rattle.contents.specs.ContentsShown.{contents_of}
use Rattle.tree_blocks.specs.TreeObjects.{lengths_of}
use Rattle.tree_plans.specs.declared.planner.PlannedBlock.{PlannedBlock}
use Rattle.pool_tables.specs.declared.pool.RunningSync.{RunningSync}
use Rattle.pool_tables.specs.declared.pool.PoolTables.{PoolTables}
use Rattle.tree_blocks.specs.SyncedTrees.{lengths_after}
use Rattle.sync.specs.Runs.{call_count, other_calls}
use Rattle.throttle.specs.Blocks.{blocks_of}

-- the size of its device, its tree, and the sync that runs
abbrev pub geometry_of : PoolTables → ℕ
geometry_of p = p.geometry

abbrev pub pool_tree : PoolTables → Tree
pool_tree p = p.synced.tree

abbrev pub sync_of : PoolTables → Option RunningSync
sync_of p = p.sync

-- what is shown of a running sync, which makes this tree into that of these contents
abbrev pub plan_of : Tree → Contents → RunningSync → SyncPlan
plan_of tree contents r = record {
  steps_left = call_count r.run - r.run.done;
  taken = map (λ (b : PlannedBlock). block_address b.index) r.run.blocks.items;
  freed = r.freed.items;
  moment = r.moment;
  root = r.root;
  header = header_fields r.header;
  contents = contents;
  lengths = listed (lengths_after r.entries tree);
}

-- the plan of a sync that starts, of a group that gives this name, if it gives one, with this log header, the addresses
-- that it takes and those that come back, and the contents that it writes
abbrev pub new_plan : ℕ → Option (List ℕ) → Header → List ℕ → List ℕ → Pointer → Contents → (ℕ → Option ℕ) → SyncPlan
new_plan moment given header taken freed root contents lengths = record {
  steps_left = length taken + other_calls given;
  taken = taken;
  freed = freed;
  moment = moment;
  root = root;
  header = header;
  contents = contents;
  lengths = listed lengths;
}

-- the contents of the synced tree, and what the oldest unsynced group makes of them
abbrev pub synced_of : PoolTables → Contents
synced_of p = contents_of p.synced

abbrev pub contents_after_oldest : PoolTables → Contents
contents_after_oldest p = patched_contents (changes_at p.changes 0) (name_at p.changes 0) (synced_of p)

-- what is shown of a pool that has these objects
abbrev pub shown_of : FinMap nat_cmp (List ℕ) → PoolTables → Shown
shown_of objects p = record {
  suspended = p.suspended;
  guid = p.guid;
  blocks = block_count p.geometry;
  import_number = p.import_number;
  dirty_max = p.dirty.limit;
  locks = p.locks.locks;
  next_lock = p.locks.next;
  line = p.groups.line;
  transactions = p.transactions.transactions;
  next_tx = p.transactions.next;
  contents = record { name = name_over p.changes p.synced.name; objects = objects };
  next_ordinal = p.next_ordinal;
  dirty = p.dirty.sums;
  reserved = blocks_of p.dirty.sums;
  free = p.free.free;
  log = log_shown p.log;
  root = p.synced.tree.root;
  synced_contents = synced_of p;
  lengths = listed (lengths_of p.synced.tree);
  sync = option_map (plan_of p.synced.tree (contents_after_oldest p)) p.sync;
}

-- the objects that a pool shows are those of its synced tree with the changes of its unsynced groups laid over
abbrev pub pool_objects : PoolTables → FinMap nat_cmp (List ℕ)
pool_objects p = laid_all p.changes (synced_of p).objects

-- with the name that its newest unsynced group gives that gives one, else the synced one
abbrev pub shown_contents : PoolTables → Contents
shown_contents p = record { name = name_over p.changes p.synced.name; objects = pool_objects p }

abbrev pub pool_shown : PoolTables → Shown
pool_shown p = shown_of (pool_objects p) p

-- what is shown once these blocks have come back
abbrev pub shown_given : List ℕ → Shown → Shown
shown_given freed s = record s { free = set.union s.free (set.from_list freed) }
