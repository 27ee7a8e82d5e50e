-- What a sync is planned to write: its group's changes over the synced contents are what the entries up to the group
-- leave.
use Rattle.std.proofs.Common.{◌≡◌, ℕ, ◌+◌, ◌<◌, true, List, map, refl, ap, sym, subst, ◌∙◌, arith}
use Rattle.std.specs.Prelude.{Option, Some, None, Ok, unwrap_or}
use Rattle.base.specs.declared.operation.Op.{Op}
use Rattle.base.specs.history.Contents.{Contents, name_given_by_all}
use Rattle.base.specs.history.History.{apply_all, entries_in}
use Rattle.base.specs.history.Past.{Past}
use Rattle.base.specs.steps.Exact.{IsBounded}
use Rattle.base.specs.steps.Tables.{AreTablesExplained}
use Rattle.base.specs.steps.Shown.{Shown}
use Rattle.base.specs.steps.Steps.{IsReplayUpTo}
use Rattle.base.proofs.history.Names.{name-apply_all}
use Rattle.base.proofs.history.KeptContents.{bounded-no_others}
use Rattle.base.proofs.steps.KeptTrees.{explained-allowed, next_bounded}
use Rattle.base.proofs.steps.WaitingGroups.{group-follows, next-group}
use Rattle.extents.specs.Patches.{ArePatchesOf, Patches, laid_over}
use Rattle.extents.specs.Synced.{patched_contents}
use Rattle.extents.proofs.LaidObjects.{group_is_read}
use Rattle.records.specs.declared.record.Record.{Record}
use Rattle.tree_plans.specs.Marks.{pending_ops}
use Rattle.records.specs.Records.{record_fields}
use Rattle.pool_tables.proofs.PendingOps.{unsynced_are}
use Rattle.mounted.proofs.Replays.{flat_replay}

-- the unsynced operations of a group lead from the synced contents to these, within the limits, and the entries up to
-- the group leave them
pub record LeadsTo (s : Shown) (p : Past) (group : ℕ) (unsynced : List Record) (after : Contents) : Type 0 where
  pub leads : apply_all (pending_ops group unsynced) s.synced_contents ≡ Ok after
  pub replayed : IsReplayUpTo group p after
  pub bounded : IsBounded after

-- a group that waits for its sync
module _ (s : Shown) (p : Past) (explained : AreTablesExplained s p) (group : ℕ) (idle : s.line.syncing ≡ None) (middle : s.line.middle ≡ Some (record { group = group; quiesced = true }))
    (unsynced : List Record) (log : s.log.unsynced ≡ map record_fields unsynced) where
  pub next_above : s.line.synced < group
  next_above = let next : group ≡ s.line.synced + 1 = next-group s p explained group idle middle in omega (arith, next)

  group_leads : (after : Contents) × LeadsTo s p group unsynced after
  group_leads =
      let after = group-follows s p explained group idle middle in
      let ops = unsynced_are s p explained unsynced log group next_above in
      let next : IsReplayUpTo (s.line.synced + 1) p after.0 = subst (λ (g : ℕ). IsReplayUpTo g p after.0) (next-group s p explained group idle middle) after.1 in (
        after.0,
        record {
          leads = subst (λ (l : List Op). apply_all l s.synced_contents ≡ Ok after.0) ops (flat_replay (entries_in group p.entries) s.synced_contents after.0 after.2);
          replayed = after.1;
          bounded = next_bounded p s.line.synced s.contents s.synced_contents after.0 explained.history (explained-allowed s p explained) explained.trees.synced.replayed explained.trees.synced.bounded next;
        },
      )

  -- its changes give just what it leads to
  pub changes_lead : (patches : Patches) (given : Option (List ℕ)) → ArePatchesOf (pending_ops group unsynced) patches → given ≡ name_given_by_all (pending_ops group unsynced) None
      → LeadsTo s p group unsynced (patched_contents patches given s.synced_contents)
  changes_lead patches given are named =
      let after = group_leads in
      let objects : laid_over patches s.synced_contents.objects ≡ after.0.objects = group_is_read (pending_ops group unsynced) patches s.synced_contents after.0 are after.1.leads
      (bounded-no_others s.synced_contents explained.trees.synced.bounded) (bounded-no_others after.0 after.1.bounded) in
      let name : after.0.name ≡ unwrap_or given s.synced_contents.name = name-apply_all (pending_ops group unsynced) None s.synced_contents.name s.synced_contents after.0 refl after.1.leads
      ∙ ap (λ (o : Option (List ℕ)). unwrap_or o s.synced_contents.name) (sym named) in
      let same : after.0 ≡ patched_contents patches given s.synced_contents = λ k. record { name = name k; objects = sym objects k } in
      subst (LeadsTo s p group unsynced) same after.1
