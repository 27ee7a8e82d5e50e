-- A group that waits for its sync: its operations lead from the synced contents to those after it.
use Rattle.std.proofs.Common.{◌≡◌, ℕ, ◌+◌, true, ap, sym, subst, ◌∙◌}
use Rattle.std.specs.Prelude.{Option, Some, None, Ok, IfSome, unwrap_or}
use Rattle.base.specs.history.Contents.{Contents}
use Rattle.base.specs.history.History.{replay, entries_in}
use Rattle.base.specs.history.Past.{Past}
use Rattle.base.specs.steps.Groups.{Middle}
use Rattle.base.specs.steps.Shown.{Shown}
use Rattle.base.specs.steps.Steps.{IsReplayUpTo}
use Rattle.base.specs.steps.Tables.{AreTablesExplained}
use Rattle.base.proofs.history.Cuts.{trees_follow}

module _ (s : Shown) (p : Past) (explained : AreTablesExplained s p) where
  module _ (group : ℕ) (idle : s.line.syncing ≡ None) (middle : s.line.middle ≡ Some (record { group = group; quiesced = true })) where
    -- the group is the one after the synced one
    pub next-group : group ≡ s.line.synced + 1
    next-group = subst (λ (o : Option Middle). IfSome o (λ (m : Middle). m.group ≡ unwrap_or s.line.syncing s.line.synced + 1)) middle explained.exact.groups.line.middle
        ∙ ap (λ (o : Option ℕ). unwrap_or o s.line.synced + 1) idle

    -- the operations of the group lead from the synced contents to what the entries up to it leave
    pub group-follows : (after : Contents) × IsReplayUpTo group p after × (replay (entries_in group p.entries) s.synced_contents ≡ Ok after)
    group-follows =
        let f = trees_follow p.entries s.line.synced p.base s.contents s.synced_contents explained.history explained.trees.synced.replayed in (
          f.0,
          subst (λ (g : ℕ). IsReplayUpTo g p f.0) (sym next-group) f.2,
          ap (λ (g : ℕ). replay (entries_in g p.entries) s.synced_contents) next-group ∙ f.1,
        )
