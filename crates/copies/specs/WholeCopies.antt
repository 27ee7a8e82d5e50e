-- What the new pool has after a copy of a pool that mounts.
use Rattle.std.specs.Prelude.{ℕ, ◌≡◌, ◌<◌, true, List, Ok}
use Rattle.std.specs.FinMap as finite
use Rattle.std.specs.List.{flat_map}
use Rattle.base.specs.disk.Disk.{Disk, bytes_of}
use Rattle.base.specs.formats.Limits.{object_count}
use Rattle.base.specs.history.Contents.{Contents}
use Rattle.base.specs.history.History.{apply_all}
use Rattle.base.specs.history.Sequences.{in_turn}
use Rattle.base.specs.tree.Mount.{MountsTo}
use Rattle.import_replay.specs.OwnCreations.{first_contents}
use Rattle.copies.specs.Copies.{Chain, IsObjectStep, ObjectStep, object_writes}

-- The steps of a copy of all objects give an empty pool, whatever its name, each object of what the old disk's image
-- mounts, with its bytes, and no other.
abbrev pub CopiesHaveAll : Type 0
CopiesHaveAll = (disk : Disk) (contents : Contents) (steps : List ObjectStep) (name : List ℕ) (copied : Contents) → MountsTo (bytes_of disk.now) contents
    → Chain (IsObjectStep true disk) 0 steps object_count → in_turn apply_all (flat_map object_writes steps) (first_contents name) ≡ Ok copied
    → (n : ℕ) → n < object_count → finite.get copied.objects n ≡ finite.get contents.objects n
