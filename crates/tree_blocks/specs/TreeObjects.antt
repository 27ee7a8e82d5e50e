-- The objects of a tree in memory, and their lengths.
use Rattle.std.specs.Prelude.{ℕ, List, Option}
use Rattle.std.specs.Ordering.{nat_cmp}
use Rattle.std.specs.FinMap.{FinMap}
use Rattle.tree_blocks.specs.declared.tree.Tree.{Tree}
use Rattle.tree_blocks.specs.Lengths.{length_in}

-- its objects, by their numbers
abbrev pub objects_of : Tree → FinMap nat_cmp (List ℕ)
objects_of t = t.objects.value

-- the length of object n, None if there is no such object
abbrev pub lengths_of : Tree → ℕ → Option ℕ
lengths_of t n = length_in t.entries.items n
