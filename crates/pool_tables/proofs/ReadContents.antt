-- What the changes of the unsynced groups make of the synced contents: for each past that explains a pool, the contents
-- that are shown.
use Rattle.std.proofs.Common.{◌≡◌, ℕ, ◌+◌, ◌<◌, ◌≤◌, List, map, ap, sym, subst, ◌∙◌, arith}
use Rattle.std.specs.Prelude.{All, None}
use Rattle.base.specs.declared.operation.Op.{Op}
use Rattle.base.specs.history.Contents.{name_given_by_all}
use Rattle.base.specs.history.History.{Entry}
use Rattle.base.specs.history.Past.{Past}
use Rattle.base.specs.steps.Tables.{AreTablesExplained}
use Rattle.base.specs.steps.Shown.{Shown}
use Rattle.base.specs.steps.Steps.{ops_of_group}
use Rattle.base.proofs.common.KeptLists.{All-each}
use Rattle.base.proofs.history.KeptContents.{bounded-no_others}
use Rattle.unsynced_extents.specs.declared.unsynced.UnsyncedExtents.{UnsyncedExtents}
use Rattle.extents.specs.Patches.{ArePatchesOf}
use Rattle.unsynced_extents.specs.Unsynced.{changes_at, laid_all, name_over}
use Rattle.unsynced_extents.proofs.UnsyncedGroups.{names_are_read, unsynced_are_read}
use Rattle.throttle.proofs.SumLaws.{open_within}
use Rattle.records.specs.declared.record.Record.{Record}
use Rattle.pool_tables.specs.Unsynced.{AreChangesOfUnsynced, AreNamesOfUnsynced}
use Rattle.records.specs.Records.{record_fields}
use Rattle.pool_tables.proofs.PendingOps.{unsynced_are}

module _ (s : Shown) (p : Past) (explained : AreTablesExplained s p) (unsynced : List Record) (log : s.log.unsynced ≡ map record_fields unsynced) (changes : UnsyncedExtents)
    (of_unsynced : AreChangesOfUnsynced s.line.synced unsynced changes) where
  -- each entry is of a group up to the third after the synced one
  all_within : All (λ (e : Entry). e.group ≤ s.line.synced + 3) p.entries
  all_within = All-each (λ (e : Entry). e.group ≤ s.line.synced + 3) p.entries (λ i e at.
      let committed = explained.exact.groups.members.committed i e at in
      let known : committed.0.group ≤ s.line.open_group = explained.exact.groups.members.known e.tx committed.0 committed.1 in
      let same : committed.0.group ≡ e.group = committed.2 in
      let three = open_within s.line explained.exact.groups.line in
      omega (arith, known, same, three))

  of_entries : (place : ℕ) → place < 3 → ArePatchesOf (ops_of_group (s.line.synced + 1 + place) p.entries) (changes_at changes place)
  of_entries place below = subst (λ (ops : List Op). ArePatchesOf ops (changes_at changes place)) (sym (unsynced_are s p explained unsynced log (s.line.synced + 1 + place) (omega arith))) (of_unsynced place below)

  pub read_as_explained : laid_all changes s.synced_contents.objects ≡ s.contents.objects
  read_as_explained = unsynced_are_read p.entries s.line.synced p.base s.synced_contents s.contents changes explained.history all_within explained.trees.synced.replayed of_entries
      (bounded-no_others s.synced_contents explained.trees.synced.bounded) (bounded-no_others s.contents explained.exact.bounded)

  -- and the name that its newest unsynced group gives that gives one, over the synced one
  pub named_as_explained : AreNamesOfUnsynced s.line.synced unsynced changes → name_over changes s.synced_contents.name ≡ s.contents.name
  named_as_explained named = names_are_read p.entries s.line.synced p.base s.synced_contents s.contents changes explained.history all_within explained.trees.synced.replayed
      (λ place below. named place below ∙ ap (λ (ops : List Op). name_given_by_all ops None) (sym (unsynced_are s p explained unsynced log (s.line.synced + 1 + place) (omega arith))))
