-- What is told of a pool over the bytes of its device, and how a step with its reply moves it.
use Rattle.std.specs.Prelude.{ℕ, ◌≡◌, List, map, Option, option_map, Result}
use Rattle.std.specs.FinMap.{FinMap}
use Rattle.std.specs.Ordering.{nat_cmp}
use Rattle.base.specs.declared.error.PoolError.{PoolError}
use Rattle.base.specs.declared.names.Group.{Group}
use Rattle.base.specs.declared.pointer.Pointer.{Pointer}
use Rattle.base.specs.declared.step.Reply as declared_reply
use Rattle.base.specs.declared.step.Reply.TheVariants as reply
use Rattle.base.specs.history.Past.{Past}
use Rattle.base.specs.tree.Places.{Place, IsPlace}
use Rattle.base.specs.steps.Runs.{progress_reply, reply_of}
use Rattle.base.specs.steps.Shown.{Shown}
use Rattle.base.specs.steps.Steps.{State}
use Rattle.base.specs.kept.Stored.{Held, Moves, NewTree}
use Rattle.tree_blocks.specs.declared.tree.Tree.{Tree}
use Rattle.tree_blocks.specs.Pointers.{pointers_of}
use Rattle.sync.specs.declared.run.LabelStages.{LabelStages}
use Rattle.sync.specs.declared.run.SyncRun.{SyncRun}
use Rattle.tree_plans.specs.Plans.{new_block}
use Rattle.pool_tables.specs.declared.pool.PoolTables.{PoolTables}
use Rattle.pool_tables.specs.declared.pool.RunningSync.{RunningSync}
use Rattle.pool_tables.specs.declared.pool.Progress.{Progress}
use Rattle.tree_blocks.specs.SyncedTrees.{pointers_after}
use Rattle.pool_tables.specs.Progresses.{plain_progress}
use Rattle.pool_tables.specs.Shows.{pool_objects, shown_of}

-- what is shown of a pool, the bytes of its device, the pointers of its tree, and what its running sync makes
pub record ShownPool : Type 0 where
  pub shown : Shown
  pub now : List ℕ
  pub pointers : Place → Pointer
  pub running : Option NewTree

-- the config that a sync with label stages writes
abbrev pub config_of : Option LabelStages → Option (List ℕ)
config_of stages = option_map (λ (s : LabelStages). s.config) stages

-- the tree of these pointers that a sync makes, its blocks as they are written, its uberblock, its config if it has
-- label stages, and how many of its calls it has made
abbrev pub made_by : (Place → Pointer) → SyncRun → NewTree
made_by pointers run = record { pointers = pointers; blocks = map new_block run.blocks.items; slot = run.uberblock; stages = config_of run.stages; done = run.done }

-- the one that a running sync makes of this tree, and its pointers
abbrev pub tree_after : RunningSync → Tree → Place → Pointer
tree_after r tree = pointers_after r.root r.directories.items r.entries tree

abbrev pub new_tree_of : Tree → RunningSync → NewTree
new_tree_of tree r = made_by (tree_after r tree) r.run

-- a pool that has these objects, over a device with these bytes
abbrev pub told_of : FinMap nat_cmp (List ℕ) → PoolTables → List ℕ → ShownPool
told_of objects p now = record { shown = shown_of objects p; now = now; pointers = pointers_of p.synced.tree; running = option_map (new_tree_of p.synced.tree) p.sync }

-- with the objects that it shows
abbrev pub pool_told : PoolTables → List ℕ → ShownPool
pool_told p = told_of (pool_objects p) p

-- what is told, with a past
abbrev pub held_with : ShownPool → Past → Held
held_with t past = record { state = record { shown = t.shown; past = past }; now = t.now; pointers = t.pointers; running = t.running }

abbrev pub state_with : ShownPool → Past → State
state_with t past = record { shown = t.shown; past = past }

-- the replies with the answers of a start and of a step of a sync
abbrev pub start_reply : Result Group PoolError → declared_reply.Reply
start_reply answer = reply_of (λ (g : Group). reply.Syncing g) answer

abbrev pub sync_step_reply : Result Progress PoolError → declared_reply.Reply
sync_step_reply answer = reply_of (λ (p : Progress). progress_reply (plain_progress p)) answer

-- the same pointer at each place of a tree
abbrev pub SamePlaces : (Place → Pointer) → (Place → Pointer) → Type 0
SamePlaces f g = (place : Place) → IsPlace place → f place ≡ g place

-- Whatever the past, a step with this reply moves the bytes, the pointers and the running sync as the definitions say.
-- At the end of a sync the pointers are those of its tree at each place of a tree.
abbrev pub Leads : declared_reply.Reply → ShownPool → ShownPool → Type 0
Leads (reply.Synced group) old new = (pointers : Place → Pointer) × SamePlaces new.pointers pointers
    × ((past later : Past) → Moves (reply.Synced group) (held_with old past) (held_with (record new { pointers = pointers }) later))
Leads r old new = (past later : Past) → Moves r (held_with old past) (held_with new later)
