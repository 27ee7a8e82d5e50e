use Rattle.std.proofs.Common.{List, ℕ, subst, sym}
use Rattle.std.specs.Ordering.{nat_cmp}
use Rattle.std.specs.FinMap.{FinMap}
use Rattle.tree_blocks.specs.Lengths.{HaveLengthsOf}
use Rattle.trees.proofs.LoadedTrees.{no_lengths, none_there}
use Rattle.trees.proofs.objects.Objects.new.Goals as goal

pub invariant_of-result : goal.invariant_of-result
invariant_of-result c = record {
  all_entries = c.in_ok-entries.ensures.count;
  sized = subst (λ (m : FinMap nat_cmp (List ℕ)). HaveLengthsOf c.in_ok-entries.entries.items m) (sym c.no_objects.ensures) (no_lengths c.in_ok-entries.entries.items c.in_ok-entries.ensures.empty);
}

pub returns-clause-empty : goal.returns-clause-empty
returns-clause-empty c = none_there c.in_ok-entries.entries.items c.in_ok-entries.ensures.empty
