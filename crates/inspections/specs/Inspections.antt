-- What an inspection tells of an image.
use Rattle.std.specs.Prelude.{ℕ, ◌≡◌, ◌+◌, ◌-◌, List}
use Rattle.std.specs.Ordering.{nat_cmp}
use Rattle.std.specs.FinSet as set
use Rattle.std.specs.FinSet.{FinSet}
use Rattle.base.specs.kept.Imports.{IsImportOf}
use Rattle.base.specs.tree.Mount.{IsMounted, Mount}
use Rattle.base.specs.formats.Uberblocks.{Uberblock}
use Rattle.base.specs.declared.names.ObjectId.{ObjectId}
use Rattle.base.specs.history.Contents.{Contents}
use Rattle.base.specs.steps.Exact.{IsBounded}
use Rattle.base.specs.steps.Shown.{Shown}
use Rattle.tree_blocks.specs.ListedObjects.{listed}
use Rattle.inspections.specs.declared.inspection.Inspected.{Inspected}

-- it is told of these contents: their name, and the numbers of their objects, rising, each with the object's length
pub record IsToldOf (i : Inspected) (contents : Contents) : Type 0 where
  pub name_is : i.name ≡ contents.name
  pub objects_are : i.objects.items ≡ listed contents.objects

-- what is told of these contents, as the definitions have what an image mounts
abbrev pub mount_of : Inspected → Contents → Mount
mount_of i contents = record {
  contents = contents;
  guid = i.guid;
  group = i.group.0;
  import_number = i.import_number;
  blocks = i.blocks;
  used = i.used;
  records = i.records;
}

-- it is told of contents within the limits of a pool
abbrev pub IsToldOfBounded : Inspected → Type 0
IsToldOfBounded i = (contents : Contents) × IsToldOf i contents × IsBounded contents

-- what is told is of this active uberblock and name, with these objects, so many records, and these free blocks of so
-- many
pub record IsInspectedFrom (u : Uberblock) (name : List ℕ) (lengths : List (ObjectId × ℕ)) (records blocks : ℕ) (free : FinSet nat_cmp) (i : Inspected) : Type 0 where
  pub guid : i.guid ≡ u.guid
  pub group : i.group.0 ≡ u.group
  pub import_number : i.import_number ≡ u.import_number
  pub blocks_are : i.blocks ≡ blocks
  pub used : i.used ≡ blocks - set.len free
  pub records_are : i.records ≡ records
  pub name_is : i.name ≡ name
  pub lengths_are : i.objects.items ≡ lengths

-- it is told of the contents that the image mounts, with all their numbers
abbrev pub IsInspectionOf : List ℕ → Inspected → Type 0
IsInspectionOf image i = (contents : Contents) × IsToldOf i contents × IsMounted image (mount_of i contents)

-- An import that applies so many records and the pool that it gives have what an inspection told: contents of this name
-- and these objects, and these blocks, four groups and an import later.
pub record IsToldBefore (i : Inspected) (records : ℕ) (s : Shown) : Type 0 where
  pub contents : IsToldOf i s.contents
  pub guid : s.guid ≡ i.guid
  pub group : s.line.synced ≡ i.group.0 + 4
  pub import_number : s.import_number ≡ i.import_number + 1
  pub blocks : s.blocks ≡ i.blocks
  pub records_are : records ≡ i.records

-- so is each import of this image, whatever it leaves
abbrev pub AgreesWithImports : List ℕ → Inspected → Type 0
AgreesWithImports image i = (now : List ℕ) (dirty_max records : ℕ) (s : Shown) → IsImportOf image now dirty_max records s → IsToldBefore i records s
