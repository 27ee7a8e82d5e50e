-- What `create`, `show` and `ls` write of a pool in a file.
use Rattle.std.specs.Prelude.{ℕ, ◌++◌, codes, List, length, Option}
use Rattle.std.specs.Fmt.{decimal}
use Rattle.std.specs.Io.KnownBytes.{Appends}
use Rattle.std.specs.List.{flat_map}
use Rattle.base.specs.declared.names.ObjectId.{ObjectId}
use Rattle.base.specs.tree.Mount.{IsMounted, Mount}
use Rattle.inspections.specs.Inspections.{AgreesWithImports, IsInspectionOf}
use Rattle.inspections.specs.declared.inspection.Inspected.{Inspected}
use Rattle.object_views.specs.Listings.{IsListingOf, IsListingOfMount}
use Rattle.object_views.specs.declared.listing.ListedPool.{ListedPool}

-- the line of a new pool of this name with so many blocks
abbrev pub created_line : List ℕ → ℕ → List ℕ
created_line name blocks = codes "created " ++ (name ++ (codes " " ++ (decimal blocks ++ codes " blocks\n")))

-- a line for each object: its number and its length
abbrev pub object_line : ObjectId × ℕ → List ℕ
object_line object = decimal object.0.0 ++ (codes " " ++ (decimal object.1 ++ codes "\n"))

abbrev pub object_lines : List (ObjectId × ℕ) → List ℕ
object_lines = flat_map object_line

-- the lines with the name and the numbers of a pool
abbrev pub number_lines : Inspected → List ℕ
number_lines i =
    codes "name " ++ (i.name ++ (codes "\nguid " ++ (decimal i.guid ++ (codes "\ngroup " ++ (decimal i.group.0 ++ (codes "\nimport " ++ (decimal i.import_number
    ++ (codes "\nblocks " ++ (decimal i.blocks ++ (codes " used " ++ (decimal i.used ++ (codes "\nrecords " ++ (decimal i.records
    ++ (codes "\nobjects " ++ (decimal (length i.objects.items) ++ codes "\n")))))))))))))))

-- what is written of a pool: these lines, and then one for each object
abbrev pub shown_lines : Inspected → List ℕ
shown_lines i = number_lines i ++ object_lines i.objects.items

-- The lines of an inspection were written. It is what the image of a device that keeps the model mounts, and what each
-- import of it mounts.
pub record WritesInspected (keeps : Type 0) (image : List ℕ) (lines : Inspected → List ℕ) (old new : Option (List ℕ)) : Type 0 where
  pub inspected : Inspected
  pub mounted : keeps → IsInspectionOf image inspected
  pub agrees : keeps → AgreesWithImports image inspected
  pub writes : Appends old new (lines inspected)

-- the lines with the name and the numbers of a pool of which the blocks in use aren't known, and then one for each object
abbrev pub fast_number_lines : ListedPool → List ℕ
fast_number_lines l =
    codes "name " ++ (l.name ++ (codes "\nguid " ++ (decimal l.guid ++ (codes "\ngroup " ++ (decimal l.group.0 ++ (codes "\nimport " ++ (decimal l.import_number
    ++ (codes "\nblocks " ++ (decimal l.blocks ++ (codes "\nrecords " ++ (decimal l.records
    ++ (codes "\nobjects " ++ (decimal (length l.objects.items) ++ codes "\n")))))))))))))

abbrev pub fast_lines : ListedPool → List ℕ
fast_lines l = fast_number_lines l ++ object_lines l.objects.items

-- The lines of a listing were written. On a device that keeps the model it is what the root and the directories of the
-- image say, with the records of its log. If the image mounts, it is of what it mounts.
pub record WritesListing (keeps : Type 0) (image : List ℕ) (lines : ListedPool → List ℕ) (old new : Option (List ℕ)) : Type 0 where
  pub listing : ListedPool
  pub listed : keeps → IsListingOf image listing
  pub mounted : keeps → (m : Mount) → IsMounted image m → IsListingOfMount m listing
  pub writes : Appends old new (lines listing)
