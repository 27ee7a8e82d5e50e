-- Why a command that only reads was not done, and what its status then says of the device.
use Rattle.std.proofs.Common.{◌≡◌, ◌≢◌, ◌⊎◌, arith, inl, inr, ℕ, List, Result, Ok, Err, Some, IsTrue, ap, refl, subst, sym, ◌∙◌}
use Rattle.std.specs.Prelude.{IfErr, IfOk, IsOk, None}
use Rattle.std.proofs.lemmas.Result.{IfOk-weaker}
use Rattle.std.specs.FinMap as finite
use Rattle.base.specs.declared.error.PoolError.{PoolError}
use Rattle.base.specs.declared.error.PoolError.TheVariants.{BadGeometry, NoMemory, Read}
use Rattle.base.specs.declared.names.ObjectId.{ObjectId}
use Rattle.base.specs.declared.range.Range.{Range}
use Rattle.base.specs.disk.Disk.{bytes_of}
use Rattle.base.specs.formats.Geometry.{IsGeometry}
use Rattle.base.specs.history.Contents.{Contents}
use Rattle.base.specs.tree.Mount.{MountsTo}
use Rattle.command_arguments.specs.declared.reports.Scope.{Scope}
use Rattle.command_arguments.specs.declared.reports.Scope.TheVariants.{Path}
use Rattle.device_model.specs.declared.device.SectorDevice.{Ghosts}
use Rattle.file_devices.specs.declared.held_file.FileRefusal.{FileRefusal}
use Rattle.inspections.specs.Inspections.{IsInspectionOf}
use Rattle.inspections.specs.declared.inspection.Inspected.{Inspected}
use Rattle.object_views.specs.Listings.{IsListingOf}
use Rattle.object_views.specs.declared.listing.ListedPool.{ListedPool}
use Rattle.read_commands.specs.Checks.{IsCheckRefusal, MountsWhole}
use Rattle.read_commands.specs.Failures.{IsFailureFor, failure_status, refusal_of}
use Rattle.read_commands.specs.ReadScopes.{AreCheckedObjects, AreMountedObjects}
use Rattle.read_commands.specs.Reads.{IsMountedRange}
use Rattle.read_commands.specs.Scopes.{IsAssured}
use Rattle.read_commands.specs.Undone.{EndsUndone, GetsUndone, HasListing, HasObjects, HasRange, HasWholePool, IsCheckRefused, IsGetRefused, IsLookFailure}
use Rattle.read_commands.specs.declared.failure.Failure.{Failure}
use Rattle.read_commands.specs.declared.failure.Failure.TheVariants.{OutOfRange, Refused, RefusedCall, Unusable, Unwritten}
use Rattle.read_commands.proofs.MountedBytes.{never_absent}

-- a refusal of the engine has status 1
pub refused_status : (e : PoolError) (why : Failure) → IsFailureFor e why → failure_status why ≡ 1
refused_status e (Refused refusal) is = refl
refused_status e (RefusedCall refusal call) is = refl
refused_status e (OutOfRange number) is = refl
refused_status e (Unusable cause) is = absurd is
refused_status e Unwritten is = absurd is

module _ {Dev : Type 0} (R : Dev → Dev → PoolError → Type 0) where
  -- so has a look that failed of what was opened
  look_status : (old : Dev) (after : Result Dev FileRefusal) (why : Failure) → IsLookFailure R (Ok old) after why → failure_status why ≡ 1
  look_status old (Ok new) why (e, refused, is) = refused_status e why is
  look_status old (Err cause) why is = absurd is

  -- the engine refused a look of what was opened
  pub look_refused : (opened : Result Dev FileRefusal) (old new : Dev) (e : PoolError) (why : Failure) → opened ≡ Ok old → R old new e → IsFailureFor e why → IsLookFailure R opened (Ok new) why
  look_refused opened old new e why is refused failure = subst (λ (o : Result Dev FileRefusal). IsLookFailure R o (Ok new) why) (sym is) (e, refused, failure)

  -- a command has status 1 if it can have no other: it is not done, and this is not so of its device
  pub refused_by : (F : Dev → Type 0) (old : Dev) (after : Result Dev FileRefusal) (status : ℕ) → (F old → ⊥) → EndsUndone R F (Ok old) after status → status ≡ 1
  refused_by F old after status not (inl (why, look, is)) = is ∙ look_status old after why look
  refused_by F old after status not (inr (three, there)) = absurd (not there)

  pub refused_if_not : (F : Dev → Type 0) (old : Dev) (after : Result Dev FileRefusal) (status : ℕ) → (status ≢ 0 → EndsUndone R F (Ok old) after status) → status ≢ 0 → (F old → ⊥) → status ≡ 1
  refused_if_not F old after status undone some not = refused_by F old after status not (undone some)

  -- and with status 3 of what was opened only its output was not written
  pub there_if_unwritten : (F : Dev → Type 0) (old : Dev) (after : Result Dev FileRefusal) (status : ℕ) → status ≡ 3 → EndsUndone R F (Ok old) after status → F old
  there_if_unwritten F old after status three (inl (why, look, is)) = absurd (let one : status ≡ 1 = is ∙ look_status old after why look in omega (arith, three, one))
  there_if_unwritten F old after status three (inr (same, there)) = there

-- what an inspection finds is mounted
pub whole_of : (image : List ℕ) (i : Inspected) → IsInspectionOf image i → MountsWhole image
whole_of image i (contents, told, is) = (contents, (is.u, is.chain, is.mounts))

module _ {Dev : Type 0} (D : Ghosts Dev) (opened : Result Dev FileRefusal) where
  -- what was found and not written is there
  pub whole_found : (i : Inspected) → IfOk opened (λ device. IsTrue D.keeps_model → IsInspectionOf (bytes_of (D.disk device).now) i) → IfOk opened (HasWholePool D)
  whole_found i found = IfOk-weaker opened _ _ (λ device mounted keeps. whole_of _ i (mounted keeps)) found

  -- and so are a listing, and the objects
  pub listing_found : (l : ListedPool) → IfOk opened (λ device. IsTrue D.keeps_model → IsListingOf (bytes_of (D.disk device).now) l) → IfOk opened (HasListing D)
  listing_found l found = IfOk-weaker opened _ _ (λ device listed keeps. (l, listed keeps)) found

  module _ (scope : Scope) where
    pub objects_found : (objects : List (ObjectId × ℕ))
        → IfOk opened (λ device. IsAssured scope (IsTrue D.keeps_model) (bytes_of (D.disk device).now) → AreMountedObjects (bytes_of (D.disk device).now) objects)
        → IfOk opened (λ device. scope ≡ Path → IsTrue D.keeps_model → AreCheckedObjects (bytes_of (D.disk device).now) objects) → IfOk opened (HasObjects D scope)
    objects_found objects = by opened
      where
        by : (o : Result Dev FileRefusal) → IfOk o (λ device. IsAssured scope (IsTrue D.keeps_model) (bytes_of (D.disk device).now) → AreMountedObjects (bytes_of (D.disk device).now) objects)
            → IfOk o (λ device. scope ≡ Path → IsTrue D.keeps_model → AreCheckedObjects (bytes_of (D.disk device).now) objects) → IfOk o (HasObjects D scope)
        by (Ok device) mounted checked = (objects, mounted, checked)
        by (Err cause) mounted checked = tt

    range_found : (object : ℕ) (range : Range) (read : Result (List ℕ) Failure) (bytes : List ℕ) → read ≡ Ok bytes
        → IfOk opened (λ device. IsAssured scope (IsTrue D.keeps_model) (bytes_of (D.disk device).now) → IfOk read (IsMountedRange (bytes_of (D.disk device).now) object range))
        → IfOk opened (HasRange D scope object range)
    range_found object range read bytes is found = IfOk-weaker opened _ _
        (λ device mounted assured. (bytes, subst (λ (r : Result (List ℕ) Failure). IfOk r (IsMountedRange (bytes_of (D.disk device).now) object range)) is (mounted assured))) found

    -- what was read of a range was not written, or was not read
    pub get_undone : (after : Result Dev FileRefusal) (object : ℕ) (range : Range) (read : Result (List ℕ) Failure) (end : Result (Unit {0}) Failure) (why : Failure) (status : ℕ) → end ≡ Err why → status ≡ failure_status why
        → IfErr read (IsLookFailure (IsGetRefused D scope object range) opened after)
        → IfOk opened (λ device. IsAssured scope (IsTrue D.keeps_model) (bytes_of (D.disk device).now) → IfOk read (IsMountedRange (bytes_of (D.disk device).now) object range))
        → IfErr read (λ failure. end ≡ Err failure) → (IsOk read → IfErr end (λ failure. failure ≡ Unwritten)) → GetsUndone D scope object range opened after status
    get_undone after object range (Ok bytes) (Err why) last status ended is look found handed unwritten =
        inr (is ∙ ap failure_status (same ∙ unwritten refl), range_found object range (Ok bytes) bytes refl found)
      where
        same : last ≡ why
        same = cc
    get_undone after object range (Err failure) end last status ended is look found handed unwritten =
        inl (failure, look, is ∙ ap failure_status same)
      where
        same : last ≡ failure
        same = let e : end ≡ Err failure = handed in cc
    get_undone after object range (Ok bytes) (Ok done) last status ended is look found handed unwritten = cc

-- no range of an object is there that isn't there
pub no_range : (image : List ℕ) (object : ℕ) (range : Range) (contents : Contents) → MountsTo image contents → finite.get contents.objects object ≡ None
    → (bytes : List ℕ) → IsMountedRange image object range bytes → ⊥
no_range image object range contents mounts absent bytes there = never_absent image object range None None contents mounts absent (bytes, there, tt)

-- a check of a device that a pool may have is refused for memory or a read
check_refusal : (size : ℕ) (e : PoolError) → IsGeometry size → IsCheckRefusal size e → (e ≡ NoMemory) ⊎ (e ≡ Read)
check_refusal size BadGeometry geometry is = absurd (is geometry)
check_refusal size NoMemory geometry is = inl refl
check_refusal size Read geometry is = inr refl
check_refusal size e geometry is = absurd is

as_refusal : (e : PoolError) (why : Failure) → IsFailureFor e why → (e ≡ NoMemory) ⊎ (e ≡ Read) → (refusal_of why ≡ Some NoMemory) ⊎ (refusal_of why ≡ Some Read)
as_refusal e (Refused refusal) is (inl memory) = inl (cc)
as_refusal e (Refused refusal) is (inr read) = inr (cc)
as_refusal e (RefusedCall refusal call) (is, device) (inl memory) = inl (cc)
as_refusal e (RefusedCall refusal call) (is, device) (inr read) = inr (cc)
as_refusal e (OutOfRange number) is (inl memory) = cc
as_refusal e (OutOfRange number) is (inr read) = cc
as_refusal e (Unusable cause) is kind = absurd is
as_refusal e Unwritten is kind = absurd is

pub check_failed : {Dev : Type 0} (D : Ghosts Dev) (old : Dev) (after : Result Dev FileRefusal) (why : Failure) → IsGeometry (D.size old) → IsLookFailure (IsCheckRefused D) (Ok old) after why
    → (refusal_of why ≡ Some NoMemory) ⊎ (refusal_of why ≡ Some Read)
check_failed D old (Ok new) why geometry (e, refused, is) = as_refusal e why is (check_refusal (D.size old) e geometry refused)
check_failed D old (Err cause) why geometry is = absurd is
