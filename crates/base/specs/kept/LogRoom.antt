-- What an import of a view needs: a block for each place that the records of its log write, and one for the log that it
-- begins.
use Rattle.std.specs.Prelude.{ℕ, ◌≡◌, ◌<◌, ◌==◌, Bool, true, not, List, map, filter, length, nat_lt, sum_by}
use Rattle.std.specs.List.{flat_map}
use Rattle.std.specs.Ordering.{nat_cmp}
use Rattle.std.specs.FinSet as set
use Rattle.std.specs.FinSet.{FinSet}
use Rattle.base.specs.declared.operation.Op.{Op}
use Rattle.base.specs.history.Plans.{shape_of, estimate_of, one_level_estimate_of}
use Rattle.base.specs.formats.Geometry.{IsBlockAddress, block_count}
use Rattle.base.specs.formats.Records.{Record}
use Rattle.base.specs.tree.Places.{Place}
use Rattle.base.specs.tree.Syncs.{written_places}
use Rattle.base.specs.kept.PlacedTrees.{HoldsTree}
use Rattle.base.specs.kept.Views.{View, IsView, ended_in, view_frame}
use Rattle.base.specs.kept.LogRule.{with_front}
use Rattle.base.specs.kept.LogSteps.{IsSpareOf}

-- what the operations of records are estimated at, what they are if no object has two levels, and these operations in
-- order
abbrev pub records_estimate : List Record → ℕ
records_estimate records = sum_by (λ (r : Record). estimate_of (map shape_of r.ops)) records

abbrev pub one_level_records_estimate : List Record → ℕ
one_level_records_estimate records = sum_by (λ (r : Record). one_level_estimate_of (map shape_of r.ops)) records

abbrev pub ops_of_records : List Record → List Op
ops_of_records records = flat_map (λ (r : Record). r.ops) records

-- the records of a view's log that its import applies
abbrev pub records_to_apply : View → List Record
records_to_apply v = filter (λ (r : Record). nat_lt v.u.group r.group) (ended_in v.logged)

-- whether the tree of a view has a block at a place
abbrev pub has_block_in : View → Place → Bool
has_block_in v place = not ((v.pointers place).address == 0)

-- the places that these records write, over the view's contents and tree
abbrev pub places_to_write : View → List Place
places_to_write v = written_places (ops_of_records (records_to_apply v)) v.synced (has_block_in v)

-- a set of blocks of the area that neither the tree nor the log of the view has
abbrev pub AreSpareBlocks : ℕ → View → FinSet nat_cmp → Type 0
AreSpareBlocks blocks v spare = (address : ℕ) → set.contains spare address ≡ true → IsBlockAddress blocks address × IsSpareOf v address

-- There are more spare blocks than places that the records of the log write, whichever front of the log a crash leaves.
pub record HasImportRoom (blocks : ℕ) (v : View) : Type 0 where
  pub spare : FinSet nat_cmp
  pub each : AreSpareBlocks blocks v spare
  pub enough : (n : ℕ) → length (places_to_write (with_front n v)) < set.len spare

-- An image holds the tree of a view of version 1, and there are more spare blocks than its records are estimated at if
-- no object has two levels. A program of that version reserved by these estimates.
pub record HasOldRoom (size : ℕ) (v : View) : Type 0 where
  pub view : IsView size v
  pub version : v.u.version ≡ 1
  pub image : List ℕ
  pub holds : HoldsTree image (view_frame size v) v.pointers v.synced.objects
  pub spare : FinSet nat_cmp
  pub each : AreSpareBlocks (block_count size) v spare
  pub enough : one_level_records_estimate (records_to_apply v) < set.len spare

-- so a pool of version 1 has room for an import
abbrev pub OldPoolsHaveRoom : Type 0
OldPoolsHaveRoom = (size : ℕ) (v : View) → HasOldRoom size v → HasImportRoom (block_count size) v
