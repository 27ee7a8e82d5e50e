-- What a command that reads by a scope may rest on, and what it writes.
use Rattle.std.proofs.Common.{◌≡◌, ap, length, map, ℕ, List, [], ◌∷◌, Option, Result, Ok, Err, IsTrue, ◌∙◌}
use Rattle.std.specs.FinMap as finite
use Rattle.std.specs.Io.KnownBytes.{Appends}
use Rattle.std.specs.Prelude.{IfOk, IsOkAnd}
use Rattle.base.specs.declared.error.PoolError.{PoolError}
use Rattle.base.specs.declared.names.ObjectId.{ObjectId}
use Rattle.base.specs.declared.range.Range.{Range}
use Rattle.base.specs.disk.Disk.{bytes_of}
use Rattle.base.specs.history.Contents.{Contents}
use Rattle.base.specs.tree.Mount.{MountsTo}
use Rattle.base.proofs.crash.OneMount.{mounts_agree}
use Rattle.command_arguments.specs.declared.reports.Scope.{Scope}
use Rattle.command_arguments.specs.declared.reports.Scope.TheVariants.{Path, Whole}
use Rattle.device_model.specs.declared.device.SectorDevice.{Ghosts}
use Rattle.file_devices.specs.declared.held_file.FileRefusal.{FileRefusal}
use Rattle.inspections.specs.Inspections.{IsInspectionOf}
use Rattle.inspections.specs.declared.inspection.Inspected.{Inspected}
use Rattle.object_views.specs.Listings.{ListsContents}
use Rattle.object_views.specs.declared.listing.ListedPool.{ListedPool}
use Rattle.tree_blocks.specs.ListedObjects.{listed}
use Rattle.read_commands.specs.Checks.{MountsWhole}
use Rattle.read_commands.specs.PathReads.{IsCheckedRange}
use Rattle.read_commands.specs.ReadScopes.{AreCheckedObjects, AreMountedObjects, WritesObjects, WritesRange}
use Rattle.read_commands.specs.Reads.{IsMountedRange, IsReadersRefusal, WritesMounted}
use Rattle.read_commands.specs.Scopes.{IsAssured}
use Rattle.read_commands.specs.Undone.{IsGetRefused, IsListRefused}
use Rattle.read_commands.specs.declared.failure.Failure.{Failure}
use Rattle.read_commands.proofs.OnlyRead.{by_inspection}

-- an image that mounts is all that a command rests on
pub assured : (scope : Scope) (keeps : Type 0) (image : List ℕ) → keeps → MountsWhole image → IsAssured scope keeps image
assured Whole keeps image kept whole = kept
assured Path keeps image kept whole = (kept, whole)

pub kept : (scope : Scope) (keeps : Type 0) (image : List ℕ) → IsAssured scope keeps image → keeps
kept Whole keeps image all = all
kept Path keeps image all = all.0

module _ {Dev : Type 0} (D : Ghosts Dev) where
  -- a refusal of what only reads
  pub get_readers : (scope : Scope) (object : ℕ) (range : Range) (old new : Dev) (e : PoolError) → IsGetRefused D scope object range old new e → IsReadersRefusal e
  get_readers Whole object range old new e refused = refused
  get_readers Path object range old new e refused = refused.readers

  pub list_readers : (scope : Scope) (old new : Dev) (e : PoolError) → IsListRefused D scope old new e → IsReadersRefusal e
  list_readers Whole old new e refused = by_inspection (D.size old) e refused.kind
  list_readers Path old new e refused = by_inspection (D.size old) e refused.kind

  -- the bytes that were read are written
  pub range_written : (scope : Scope) (object : ℕ) (range : Range) (before after : Option (List ℕ)) (opened : Result Dev FileRefusal) (read : Result (List ℕ) Failure)
      → IfOk opened (λ device. IsAssured scope (IsTrue D.keeps_model) (bytes_of (D.disk device).now) → IfOk read (IsMountedRange (bytes_of (D.disk device).now) object range))
      → IfOk opened (λ device. scope ≡ Path → IsTrue D.keeps_model → IfOk read (IsCheckedRange (bytes_of (D.disk device).now) object range))
      → IsOkAnd read (Appends before after) → IfOk opened (λ device. WritesRange scope (IsTrue D.keeps_model) (bytes_of (D.disk device).now) object range before after)
  range_written scope object range before after (Ok device) (Ok bytes) mounted checked writes = record { bytes = bytes; mounted = mounted; checked = checked; writes = writes }
  range_written scope object range before after (Ok device) (Err failure) mounted checked writes = absurd writes
  range_written scope object range before after (Err cause) read mounted checked writes = tt

  -- the lines of the objects that were listed are written
  pub objects_written : (scope : Scope) (lines : List (ObjectId × ℕ) → List ℕ) (objects : List (ObjectId × ℕ)) (before after : Option (List ℕ)) → Appends before after (lines objects) → (opened : Result Dev FileRefusal)
      → IfOk opened (λ device. IsAssured scope (IsTrue D.keeps_model) (bytes_of (D.disk device).now) → AreMountedObjects (bytes_of (D.disk device).now) objects)
      → IfOk opened (λ device. scope ≡ Path → IsTrue D.keeps_model → AreCheckedObjects (bytes_of (D.disk device).now) objects)
      → IfOk opened (λ device. WritesObjects scope (IsTrue D.keeps_model) (bytes_of (D.disk device).now) lines before after)
  objects_written scope lines objects before after writes (Ok device) mounted checked = record { objects = objects; mounted = mounted; checked = checked; writes = writes }
  objects_written scope lines objects before after writes (Err cause) mounted checked = tt

-- what was written of an image that mounts
pub as_mounted : (scope : Scope) (keeps : Type 0) (image : List ℕ) (object : ℕ) (range : Range) (before after : Option (List ℕ)) → keeps → MountsWhole image
    → WritesRange scope keeps image object range before after → WritesMounted image object range before after
as_mounted scope keeps image object range before after kept whole w = (w.bytes, w.mounted (assured scope keeps image kept whole), w.writes)

-- the objects of an inspection are those of what the image mounts
pub inspected_objects : (image : List ℕ) (i : Inspected) → IsInspectionOf image i → AreMountedObjects image i.objects.items
inspected_objects image i (contents, told, is) = (contents, (is.u, is.chain, is.mounts), told.objects_are)

-- and so are those that are listed by path
pub listed_objects : (image : List ℕ) (l : ListedPool) (contents : Contents) → MountsTo image contents → ListsContents l contents → AreMountedObjects image l.objects.items
listed_objects image l contents mounts lists = (contents, mounts, lists.objects_are)

-- an image mounts one contents, so all its objects are those of any that it mounts
pub objects_of : (image : List ℕ) (objects : List (ObjectId × ℕ)) → AreMountedObjects image objects → (contents : Contents) → MountsTo image contents → objects ≡ listed contents.objects
objects_of image objects (other, (w, pieces, found), are) contents (u, chain, mounts) =
    let (same_u, same_chain, same) = mounts_agree image w u pieces chain other contents found mounts in
    are ∙ ap (λ (c : Contents). listed c.objects) same

-- of one object of two bytes these are its number and its length
pub seven_listed : (image : List ℕ) (objects : List (ObjectId × ℕ)) → AreMountedObjects image objects → (contents : Contents) → MountsTo image contents
    → finite.entries contents.objects ≡ (7, 10 ∷ 11 ∷ []) ∷ [] → objects ≡ (record { 0 = 7 }, 2) ∷ []
seven_listed image objects are contents mounts alone =
    let row : ℕ × List ℕ → ObjectId × ℕ = λ e. (record { 0 = e.0 }, length e.1) in
    objects_of image objects are contents mounts ∙ ap (map row) alone
