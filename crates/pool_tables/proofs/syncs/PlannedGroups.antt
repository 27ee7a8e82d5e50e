-- The plan of a group, made of what its transactions did to the synced contents.
use Rattle.std.proofs.Common.{◌≡◌, ℕ, ◌<◌, List, Option, length, map, ap, sym, subst, ◌∙◌, arith}
use Rattle.std.specs.Prelude.{Some, Ok, slice_get, All}
use Rattle.std.specs.List.{list_any}
use Rattle.std.specs.FinMap as finite
use Rattle.base.specs.declared.operation.Op.{Op}
use Rattle.base.specs.declared.pointer.Pointer.{Pointer}
use Rattle.base.specs.formats.Limits.{object_count}
use Rattle.base.specs.history.Contents.{Contents}
use Rattle.base.specs.history.History.{apply_all}
use Rattle.base.specs.history.Past.{Past}
use Rattle.base.specs.history.Plans.{IsRange, ranges}
use Rattle.base.specs.steps.Exact.{IsBounded}
use Rattle.base.specs.steps.Tables.{AreTablesExplained}
use Rattle.base.specs.steps.Shown.{Shown, SyncPlan, length_at, listed}
use Rattle.base.specs.steps.Steps.{AreLengthsOf, ops_of_group}
use Rattle.base.specs.kept.Stored.{AreUsed, IsPlannedSync, IsStored, frame_at}
use Rattle.base.specs.kept.PlacedTrees.{HoldsTree}
use Rattle.base.specs.tree.Places.{Place}
use Rattle.base.specs.tree.Places.Place.{Indirect, Root, Top}
use Rattle.base.specs.kept.PlannedTrees.{AreFreed, IsTreePlan, NewBlock}
use Rattle.base.specs.tree.Syncs.{is_on}
use Rattle.base.proofs.steps.ListedLengths.{listed_lengths_are}
use Rattle.base.proofs.stored.StoredTrees.{stored-births}
use Rattle.base.proofs.tree.WrittenPlaces.{group-numbers, group-ranges}
use Rattle.tree_blocks.specs.declared.tree.ObjectEntry.{ObjectEntry}
use Rattle.tree_blocks.specs.Lengths.{length_in}
use Rattle.records.specs.declared.record.Record.{Record}
use Rattle.records.specs.Records.{record_fields}
use Rattle.tree_plans.specs.Changes.{AreBornBefore, IsEntryPointer}
use Rattle.tree_plans.specs.Marks.{pending_ops}
use Rattle.tree_plans.specs.Pointers.{entry_pointer_of}
use Rattle.group_plans.specs.GroupPlans.{IsPlannedGroup}
use Rattle.group_plans.specs.Operations.{AreSized, TakesPlace}
use Rattle.group_plans.proofs.GroupTrees.{tree_planned}
use Rattle.pool_tables.proofs.PendingOps.{unsynced_are}
use Rattle.mounted.proofs.Replays.{sized_object}

-- objects within the limits of contents are no longer than the greatest length
pub bounded_sized : (c : Contents) → IsBounded c → AreSized c.objects
bounded_sized c bounded n = sized_object (finite.get c.objects n) n (bounded.objects n)

-- What the unsynced records tell of a group above the synced one, whatever the device holds.
module _ (s : Shown) (p : Past) (explained : AreTablesExplained s p) (group : ℕ) (above : s.line.synced < group) (unsynced : List Record) (log : s.log.unsynced ≡ map record_fields unsynced) where
  pub ops_are : ops_of_group group p.entries ≡ pending_ops group unsynced
  ops_are = unsynced_are s p explained unsynced log group above

  -- if its operations lead from the synced contents to others, they take place within the limits
  pub group_takes_place : (after : Contents) → apply_all (pending_ops group unsynced) s.synced_contents ≡ Ok after → (entries : List ObjectEntry) → s.lengths ≡ listed (length_in entries)
      → TakesPlace (pending_ops group unsynced) entries s.synced_contents after
  group_takes_place after leads entries told = record {
    leads = leads;
    within = subst (λ (ops : List Op). All IsRange (ranges ops)) ops_are (group-ranges s p explained group);
    numbers = λ n on. group-numbers s p explained group n (ap (λ (ops : List Op). list_any (is_on n) ops) ops_are ∙ on);
    sizes = listed_lengths_are s.synced_contents (length_in entries) (subst (λ (lengths : List (Option ℕ)). AreLengthsOf s.synced_contents (length_at lengths)) told explained.trees.synced.lengths);
  }

-- what a device holds is the tree of the synced contents
module _ (now : List ℕ) (s : Shown) (p : Past) (pointers : Place → Pointer) (x : IsStored now s pointers p) (explained : AreTablesExplained s p) where
  pub synced_stored : x.synced ≡ s.synced_contents
  synced_stored = let both : Ok x.synced ≡ Ok s.synced_contents = sym x.replayed ∙ explained.trees.synced.replayed in cc

  pub synced_tree : HoldsTree now (frame_at s s.line.synced) pointers s.synced_contents.objects
  synced_tree = subst (λ (c : Contents). HoldsTree now (frame_at s s.line.synced) pointers c.objects) synced_stored x.tree

-- and of the plan of a group that leads from them to others, on a tree whose entries name the stored pointers
module _ (now : List ℕ) (s : Shown) (p : Past) (pointers : Place → Pointer) (x : IsStored now s pointers p) (explained : AreTablesExplained s p) (group : ℕ) (above : s.line.synced < group)
    (unsynced : List Record) (after : Contents) (sized : AreSized after.objects) (entries : List ObjectEntry) (place : TakesPlace (pending_ops group unsynced) entries s.synced_contents after)
    (named : (n : ℕ) → n < object_count → IsEntryPointer (entry_pointer_of entries n) (pointers (Top n)) (pointers (Indirect n)) (finite.get s.synced_contents.objects n)) where
  born_before : AreBornBefore group pointers
  born_before p_at is = let birth = stored-births now s pointers p x p_at is in omega (arith, above, birth)

  -- what is planned is a sync from the stored tree to them
  pub planned_sync : (new : Place → Pointer) (bs : List NewBlock) (plan : SyncPlan) → IsPlannedGroup group unsynced entries (frame_at s group) pointers new bs after.objects
      → map (λ (b : NewBlock). b.address) bs ≡ plan.taken → ((i : ℕ) (b : NewBlock) → slice_get bs i ≡ Some b → length b.content ≡ 4096) → (AreBornBefore group pointers → AreFreed pointers new plan.freed)
      → AreUsed bs new → new Root ≡ plan.root → IsPlannedSync (frame_at s group) pointers new bs x.synced.objects after.objects plan
  planned_sync new bs plan from taken whole freed used root =
      record {
        planned = subst (λ (c : Contents). IsTreePlan bs (frame_at s group) pointers new c.objects after.objects) (sym (synced_stored now s p pointers x explained))
            (tree_planned group unsynced entries s.synced_contents after place sized now (frame_at s s.line.synced) pointers (synced_tree now s p pointers x explained) named (frame_at s group) new bs from);
        taken = taken;
        whole = whole;
        freed = freed born_before;
        used = used;
        root = root;
      }
