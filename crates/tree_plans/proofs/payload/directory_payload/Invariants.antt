use Rattle.std.proofs.Common.{◌≡◌, ℕ, ◌<◌, ◌≤◌, length, replicate}
use Rattle.base.specs.formats.Fields.{entry_in}
use Rattle.tree_plans.specs.Pointers.{entry_pointer_of}
use Rattle.tree_plans.specs.Walks.{AreEntriesWritten}
use Rattle.tree_plans.proofs.payload.directory_payload.Given as goal

abbrev pub invariant-loop-index : goal.invariant-loop-index
invariant-loop-index g l = record {
  size : length l.payload ≡ 4032;
  written : AreEntriesWritten (entry_pointer_of l.source.tree.now.entries.items) l.entries.entries (g.O.ObjectSource.objects l.after) l.directory l.index l.payload;
  others : (k : ℕ) → l.index ≤ k → k < 63 → entry_in l.payload k ≡ replicate 64 0;
}
