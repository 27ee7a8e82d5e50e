-- The places that the sync of a group writes, told by the changes of its plan: it takes one block for each, in their
-- order.
use Rattle.std.proofs.Common.{◌≡◌, ℕ, ◌≤◌, List, length, map, ap, sym, subst, ◌∙◌, arith}
use Rattle.std.specs.Prelude.{Some, None, ◌==◌, not}
use Rattle.std.proofs.lemmas.List.{length-map}
use Rattle.base.specs.declared.operation.Op.{Op}
use Rattle.base.specs.declared.pointer.Pointer.{Pointer}
use Rattle.base.specs.history.Contents.{Contents}
use Rattle.base.specs.history.Past.{Past}
use Rattle.base.specs.history.Plans.{estimate_of, shape_of}
use Rattle.base.specs.steps.Tables.{AreTablesExplained}
use Rattle.base.specs.steps.Refusals.{quiesced_group}
use Rattle.base.specs.steps.Shown.{Shown, SyncPlan, free_count}
use Rattle.base.specs.steps.Steps.{TakesForEach, ops_of_group}
use Rattle.base.specs.kept.Stored.{IsStored, frame_at}
use Rattle.base.specs.tree.Places.{Place, has_block}
use Rattle.base.specs.kept.PlannedTrees.{NewBlock}
use Rattle.base.specs.tree.Syncs.{written_places}
use Rattle.base.proofs.steps.Reservations.{syncs_have_room}
use Rattle.base.proofs.tree.PlacedTrees.{pointers-told}
use Rattle.tree_blocks.specs.declared.tree.ObjectEntry.{ObjectEntry}
use Rattle.records.specs.declared.record.Record.{Record}
use Rattle.tree_plans.specs.Marks.{pending_ops}
use Rattle.group_plans.specs.GroupPlans.{IsShortOfBlocks, TakesGroupPlaces}
use Rattle.group_plans.specs.Operations.{AreSized, TakesPlace}
use Rattle.group_plans.proofs.GroupCounts.{AreNamedAs, blocks_fit, named_by, short_of_places, takes_at_places}
use Rattle.pool_tables.proofs.syncs.PlannedGroups.{synced_tree}

-- Whatever the device holds, and from whichever pointers it is planned.
module _ (s : Shown) (p : Past) (explained : AreTablesExplained s p) (group : ℕ) (pending : List Record) (ops_are : ops_of_group group p.entries ≡ pending_ops group pending)
    (after : Contents) (entries : List ObjectEntry) (place : TakesPlace (pending_ops group pending) entries s.synced_contents after) (sized : AreSized after.objects) (pointers : Place → Pointer) where
  -- a plan takes no more blocks than the operations are estimated at
  pub taken_fit : (new : Place → Pointer) (bs : List NewBlock) (returned : List ℕ) → TakesGroupPlaces group pending entries pointers new bs returned after.objects
      → length bs ≤ estimate_of (map shape_of (ops_of_group group p.entries))
  taken_fit new bs returned from =
      subst (λ (ops : List Op). length bs ≤ estimate_of (map shape_of ops)) (sym ops_are) (blocks_fit group pending entries s.synced_contents after place sized pointers new bs returned from)

  -- and with what is reserved for the group no plan is short of blocks
  pub enough_blocks : s.line.syncing ≡ None → quiesced_group s.line ≡ Some group → (free : List ℕ) → length free ≡ free_count s → IsShortOfBlocks group pending entries pointers after.objects free → ⊥
  enough_blocks idle quiesced free counted short =
      let room = syncs_have_room (record { shown = s; past = p }) group s.synced_contents (named_by pointers) explained.exact.groups explained.exact.sync
      (record { charges = explained.exact.charges; blocks = explained.exact.blocks }) idle quiesced in
      let same = ap (λ (ops : List Op). length (written_places ops s.synced_contents (named_by pointers))) ops_are in
      let fewer = short_of_places group pending entries s.synced_contents after place sized pointers free short in
      omega (arith, room, same, fewer, counted)

module _ (now : List ℕ) (s : Shown) (p : Past) (pointers : Place → Pointer) (x : IsStored now s pointers p) (explained : AreTablesExplained s p) (group : ℕ) (pending : List Record)
    (ops_are : ops_of_group group p.entries ≡ pending_ops group pending) (after : Contents) (entries : List ObjectEntry) (place : TakesPlace (pending_ops group pending) entries s.synced_contents after)
    (sized : AreSized after.objects) (new : Place → Pointer) (bs : List NewBlock) (returned : List ℕ) (plan : SyncPlan) (from : TakesGroupPlaces group pending entries pointers new bs returned after.objects) (taken : map (λ (b : NewBlock). b.address) bs ≡ plan.taken) where
  -- the places that the sync of the group writes
  abbrev pub places : List Place
  places = written_places (ops_of_group group p.entries) s.synced_contents (has_block now s.root)

  -- the tree's pointers name a block where the device has one
  had_block : AreNamedAs pointers (has_block now s.root)
  had_block place in_range =
      ap (λ (q : Pointer). not (q.address == 0)) (sym (pointers-told now (frame_at s s.line.synced) pointers s.synced_contents.objects (synced_tree now s p pointers x explained) place in_range))
      ∙ ap (λ (q : Pointer). has_block now q place) x.root

  -- the new tree has the taken addresses at them, in order
  pub takes_in_order : map (λ (place : Place). (new place).address) places ≡ plan.taken
  takes_in_order =
      ap (λ (ops : List Op). map (λ (place : Place). (new place).address) (written_places ops s.synced_contents (has_block now s.root))) ops_are
      ∙ takes_at_places group pending entries s.synced_contents after place sized pointers new bs returned from (has_block now s.root) had_block
      ∙ taken

  -- so it takes one for each
  pub takes_for_each : TakesForEach now (record { shown = s; past = p }) group plan
  takes_for_each = record {
    synced = s.synced_contents;
    replayed = explained.trees.synced.replayed;
    each = ap (λ (l : List ℕ). length l) (sym takes_in_order) ∙ length-map places (λ (place : Place). (new place).address);
  }
