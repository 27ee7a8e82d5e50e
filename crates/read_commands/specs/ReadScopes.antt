-- What a command that reads by a scope writes: bytes of an object, or the objects.
use Rattle.std.specs.Prelude.{ℕ, ◌≡◌, List, Option}
use Rattle.std.specs.Io.KnownBytes.{Appends}
use Rattle.base.specs.declared.names.ObjectId.{ObjectId}
use Rattle.base.specs.declared.range.Range.{Range}
use Rattle.base.specs.history.Contents.{Contents}
use Rattle.base.specs.tree.Mount.{MountsTo}
use Rattle.command_arguments.specs.declared.reports.Scope.{Scope}
use Rattle.command_arguments.specs.declared.reports.Scope.TheVariants.{Path}
use Rattle.object_views.specs.Listings.{IsListingOf}
use Rattle.object_views.specs.declared.listing.ListedPool.{ListedPool}
use Rattle.tree_blocks.specs.ListedObjects.{listed}
use Rattle.read_commands.specs.PathReads.{IsCheckedRange}
use Rattle.read_commands.specs.Reads.{IsMountedRange}
use Rattle.read_commands.specs.Scopes.{IsAssured}

-- Bytes were written. They are those of a range of an object in what the image mounts, if that is assured. If they were
-- read by path, they are checked, whatever the image mounts.
pub record WritesRange (scope : Scope) (keeps : Type 0) (image : List ℕ) (object : ℕ) (range : Range) (old new : Option (List ℕ)) : Type 0 where
  pub bytes : List ℕ
  pub mounted : IsAssured scope keeps image → IsMountedRange image object range bytes
  pub checked : scope ≡ Path → keeps → IsCheckedRange image object range bytes
  pub writes : Appends old new bytes

-- these are all objects of what the image mounts, with their lengths; an image mounts one contents (`mounts_agree` of
-- `base`), so they are those that an import of it has
abbrev pub AreMountedObjects : List ℕ → List (ObjectId × ℕ) → Type 0
AreMountedObjects image objects = (contents : Contents) × MountsTo image contents × (objects ≡ listed contents.objects)

-- these are all objects by the root, the directories and the log of the image, whatever the other blocks hold
abbrev pub AreCheckedObjects : List ℕ → List (ObjectId × ℕ) → Type 0
AreCheckedObjects image objects = (l : ListedPool) × IsListingOf image l × (objects ≡ l.objects.items)

-- The lines of some objects were written: of those in what the image mounts, if that is assured. If they were read by
-- path, they are checked, whatever the image mounts.
pub record WritesObjects (scope : Scope) (keeps : Type 0) (image : List ℕ) (lines : List (ObjectId × ℕ) → List ℕ) (old new : Option (List ℕ)) : Type 0 where
  pub objects : List (ObjectId × ℕ)
  pub mounted : IsAssured scope keeps image → AreMountedObjects image objects
  pub checked : scope ≡ Path → keeps → AreCheckedObjects image objects
  pub writes : Appends old new (lines objects)
