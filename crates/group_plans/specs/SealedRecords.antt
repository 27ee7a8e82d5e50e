-- Records at hand as the blocks of a pool and a group.
use Rattle.std.specs.Prelude.{ℕ, ◌≡◌, ◌/◌, ◌%◌, List, Some}
use Rattle.std.specs.BTreeMap as tree
use Rattle.std.specs.BTreeMap.{BTreeMap}
use Rattle.std.specs.Ordering.{nat_cmp}
use Rattle.std.specs.FinMap.{FinMap}
use Rattle.base.specs.formats.Blocks.{sealed_block}
use Rattle.base.specs.formats.Limits.{pointer_count, record_count}
use Rattle.base.specs.tree.Places.{number_of_place, strip_number}
use Rattle.base.specs.tree.Places.Place.{Data}
use Rattle.checked_blocks.specs.Sealing.{padded}
use Rattle.group_plans.specs.declared.prepared.PreparedObjects.{PreparedObjects}
use Rattle.group_plans.specs.GroupPlans.{objects_with}
use Rattle.group_plans.specs.Prepared.{at_hand, with_records}

-- the number of the data block of a record, by its key, the number of the record among those of all objects
abbrev pub data_number : ℕ → ℕ
data_number key = number_of_place (Data (strip_number (key / record_count) (key % record_count / pointer_count)) (key % record_count % pointer_count))

-- a block is that of a record at hand
abbrev pub IsSealedAs : ℕ → ℕ → BTreeMap ℕ (List ℕ) → ℕ → List ℕ → Type 0
IsSealedAs guid group records key block = (payload : List ℕ) → tree.get nat_cmp records key ≡ Some payload → block ≡ sealed_block 5 guid group (data_number key) (padded payload)

-- each of these blocks is that of its record
abbrev pub AreSealed : ℕ → ℕ → BTreeMap ℕ (List ℕ) → BTreeMap ℕ (List ℕ) → Type 0
AreSealed guid group records blocks = (key : ℕ) (block : List ℕ) → tree.get nat_cmp blocks key ≡ Some block → IsSealedAs guid group records key block

-- the objects that a tree has with the changes laid over them, with the records at hand
abbrev pub prepared_objects : PreparedObjects → FinMap nat_cmp (List ℕ)
prepared_objects p = with_records (at_hand p.records) (objects_with p.extents.now p.tree.now)
