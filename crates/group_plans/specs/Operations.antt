-- The operations of a group that take place.
use Rattle.std.specs.Prelude.{ℕ, ◌≡◌, ◌≤◌, ◌<◌, All, List, Ok, IfSome, length, true}
use Rattle.std.specs.List.{list_any}
use Rattle.std.specs.Ordering.{nat_cmp}
use Rattle.std.specs.FinMap as finite
use Rattle.std.specs.FinMap.{FinMap}
use Rattle.base.specs.declared.operation.Op.{Op}
use Rattle.base.specs.formats.Limits.{max_length, object_count}
use Rattle.base.specs.history.Contents.{Contents}
use Rattle.base.specs.history.History.{apply_all}
use Rattle.base.specs.history.Plans.{IsRange, ranges}
use Rattle.base.specs.steps.Steps.{AreLengthsOf}
use Rattle.base.specs.tree.Syncs.{is_on}
use Rattle.tree_blocks.specs.declared.tree.ObjectEntry.{ObjectEntry}
use Rattle.tree_blocks.specs.Lengths.{length_in}

-- Operations lead from contents to others. They are within the limits of ranges and of object numbers, and the maps of
-- the tree before them have the lengths before them.
pub record TakesPlace (ops : List Op) (maps : List ObjectEntry) (before after : Contents) : Type 0 where
  pub leads : apply_all ops before ≡ Ok after
  pub within : All IsRange (ranges ops)
  pub numbers : (n : ℕ) → list_any (is_on n) ops ≡ true → n < object_count
  pub sizes : AreLengthsOf before (length_in maps)

-- no object is longer than the greatest length
abbrev pub AreSized : FinMap nat_cmp (List ℕ) → Type 0
AreSized objects = (n : ℕ) → IfSome (finite.get objects n) (λ bytes. length bytes ≤ max_length)
