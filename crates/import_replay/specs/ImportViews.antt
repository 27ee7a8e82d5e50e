-- The views of an import, for crashes: the one that its disk is at rest on, and the one that it writes.
use Rattle.std.specs.Prelude.{ℕ, ◌≡◌, ◌≢◌, ◌≤◌, ◌+◌, All, List, [], Some, length, slice_get}
use Rattle.base.specs.kept.CallStages.{FixedLabels, IsAtRestAt}
use Rattle.base.specs.kept.CrashRule.{IsImportMoment}
use Rattle.base.specs.kept.LogRule.{with_front}
use Rattle.base.specs.kept.LogSteps.{IsSpareOf}
use Rattle.base.specs.kept.Own.{AreConfigsBelowImport, IsAtRest}
use Rattle.base.specs.kept.Views.{View, view_frame}
use Rattle.base.specs.declared.pointer.Pointer.{Pointer}
use Rattle.base.specs.disk.Disk.{Disk, EachMoment, Moment, bytes_of, handed, moments}
use Rattle.base.specs.disk.Fairness.{HasFairBytes}
use Rattle.base.specs.formats.Fields.{number_at}
use Rattle.base.specs.formats.Geometry.{block_address}
use Rattle.base.specs.formats.Labels.{Config}
use Rattle.base.specs.formats.Uberblocks.{Uberblock}
use Rattle.base.specs.formats.Blocks.{Frame}
use Rattle.base.specs.history.Contents.{Contents}
use Rattle.base.specs.kept.PlacedTrees.{HoldsTree}
use Rattle.base.specs.tree.Places.{Place}
use Rattle.base.specs.tree.Places.Place.{Root}
use Rattle.labels.specs.Configs.{config_block}
use Rattle.labels.specs.Stages.{labels_of}
use Rattle.labels.specs.declared.stage.Stage.{Stage}
use Rattle.sync.specs.Made.{BlocksWritten}
use Rattle.tree_plans.specs.declared.planner.PlannedBlock.{PlannedBlock}
use Rattle.uberblocks.specs.Slots.{slot_bytes}
use Rattle.import_replay.specs.LabelSyncs.{ImportWrites}

-- the tree of a view: its pointers, and the contents that it has
pub record ViewTree : Type 0 where
  pub pointers : Place → Pointer
  pub contents : Contents

-- the view that an import writes: this config, this uberblock and this tree, and a log that begins anew
abbrev pub view_behind : Config → Uberblock → ViewTree → View
view_behind config u tree = record {
  u = u;
  slot = slot_bytes u;
  config_group = config.group;
  name = config.name;
  config = config_block config;
  pointers = tree.pointers;
  synced = tree.contents;
  logged = [];
}

-- and of what it writes
abbrev pub view_of : ImportWrites → ViewTree → View
view_of w tree = view_behind w.config w.u tree

-- no label of this stage has the config that is needed of a view
abbrev pub SparesConfig : Stage → FixedLabels → Type 0
SparesConfig first at = (k label : ℕ) → slice_get (labels_of first) k ≡ Some label → label ≢ at.config

-- What is written comes after the view: four groups and an import later, of its pool, with the name of what was
-- mounted. The uberblock has the root of this tree.
pub record ComesBehind (w : ImportWrites) (tree : ViewTree) (v : View) : Type 0 where
  pub guid : w.u.guid ≡ v.u.guid
  pub group : w.u.group ≡ v.u.group + 4
  pub import_number : w.u.import_number ≡ v.u.import_number + 1
  pub root : tree.pointers Root ≡ w.u.root
  pub config_is : w.config ≡ record { guid = v.u.guid; group = v.u.group + 4; size = w.size; name = tree.contents.name }

-- a block of a tree, at an address that the view has neither in its tree nor in the front of its log with its records
pub record IsSpareFor (flushed : ℕ) (v : View) (b : PlannedBlock) : Type 0 where
  pub not_config : number_at b.block 0 ≢ 1
  pub not_log : number_at b.block 0 ≢ 6
  pub spare : IsSpareOf (with_front flushed v) (block_address b.index)

-- if just these blocks of the area are written over these bytes, the tree stands
abbrev pub IsTreeMade : (base : List ℕ) (size : ℕ) → List PlannedBlock → Frame → ViewTree → Type 0
IsTreeMade base size blocks frame tree =
    (image : List ℕ) → length image ≡ length base → BlocksWritten base size blocks (length blocks) image → HoldsTree image frame tree.pointers tree.contents.objects

-- An import that mounts this name may write after the view: the disk is at rest on it, with so many of its log blocks
-- and what these labels have, and all else is as an import leaves it.
pub record IsReadyBehind (size created flushed : ℕ) (at : FixedLabels) (v : View) (name : List ℕ) (m : Moment) : Type 0 where
  pub rest : IsAtRestAt size created flushed at v m
  pub bytes : HasFairBytes size created m
  pub configs : AreConfigsBelowImport size created (handed m) v name

-- This may be written after the view, this stage first: it comes after the view and spares it, and it makes the tree.
pub record MayBeWritten (w : ImportWrites) (first : Stage) (created flushed : ℕ) (at : FixedLabels) (v : View) (tree : ViewTree) (start : Disk) : Type 0 where
  pub began : created ≤ moments start
  pub ready : IsReadyBehind w.size created flushed at v tree.contents.name start.now
  pub behind : ComesBehind w tree v
  pub spares : SparesConfig first at
  pub apart : All (IsSpareFor flushed v) w.blocks
  pub made : IsTreeMade (bytes_of start.now) w.size w.blocks (view_frame w.size (view_of w tree)) tree

-- whenever the pool was created, and for each view after which this may be written, with so many of its log blocks
-- fixed and each tree that it makes
abbrev pub ForEachView : ImportWrites → Stage → Disk → (ℕ → ℕ → FixedLabels → View → ViewTree → Type 0) → Type 0
ForEachView w first start P = (created flushed : ℕ) (at : FixedLabels) (v : View) (tree : ViewTree) → MayBeWritten w first created flushed at v tree start → P created flushed at v tree

-- each moment from the one disk to the other is one of an import, from the view that it began on to the one that it
-- writes
abbrev pub KeepsViews : ImportWrites → Stage → Disk → Disk → Type 0
KeepsViews w first start now = ForEachView w first start (λ created flushed at v tree. EachMoment (IsImportMoment w.size created flushed v (view_of w tree) tree.contents.name) start now)

-- and at last the disk is at rest on that one
abbrev pub EndsBehind : ImportWrites → Stage → Disk → Disk → Type 0
EndsBehind w first start now = ForEachView w first start (λ created flushed at v tree. IsAtRest w.size created 0 now.now (view_of w tree))
