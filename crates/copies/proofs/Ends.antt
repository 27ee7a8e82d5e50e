-- How a copy ends: its failure, or what it copied and the lines of what it didn't.
use Rattle.std.proofs.Common.{◌≡◌, ◌≢◌, ◌∷◌, ◌++◌, ◌∙◌, [], ℕ, List, Option, ap, false, inl, inr, refl, subst, sym, true}
use Rattle.std.specs.Prelude.{Bool, IsTrue, ◌&&◌}
use Rattle.std.specs.Io.KnownBytes.{Appends}
use Rattle.std.specs.List.{flat_map, list_all}
use Rattle.std.proofs.lemmas.Bool.{true≢false}
use Rattle.base.specs.declared.error.PoolError.{PoolError}
use Rattle.base.specs.declared.names.ObjectId.{ObjectId}
use Rattle.base.specs.disk.Disk.{Disk, bytes_of}
use Rattle.base.specs.formats.Limits.{object_count}
use Rattle.base.specs.history.Contents.{Contents}
use Rattle.base.specs.tree.Mount.{MountsTo}
use Rattle.file_devices.specs.declared.held_file.FileRefusal.{FileRefusal}
use Rattle.inspections.specs.PoolDamages.{IsOfNoDamage}
use Rattle.read_commands.specs.Failures.{IsFailureFor, failure_status}
use Rattle.read_commands.specs.declared.failure.Failure.{Failure}
use Rattle.read_commands.specs.declared.failure.Failure.TheVariants.{OutOfRange, Refused, RefusedCall, Unusable, Unwritten}
use Rattle.copies.specs.Copies.{IsObjectStep, ObjectStep, RecordStep, is_copied, is_kept, object_lines, record_lines, viewed_object}
use Rattle.copies.specs.Copies.ObjectStep.{Passed, Viewed}
use Rattle.copies.specs.Copies.RecordStep.{Hole, Lost, Written}
use Rattle.copies.specs.NewPools.{CopiesAll}
use Rattle.copies.specs.Statuses.{IsCopyFailure, IsFailureOf, IsStopFailure}
use Rattle.copies.specs.Stops.{IsStopOf}
use Rattle.copies.specs.declared.stop.Stop.{Stop}
use Rattle.copies.specs.declared.stop.Stop.TheVariants as stop
use Rattle.copies.proofs.Moved.{chain_moved, object_moved, stop_moved}

both_parts : (x y : Bool) → (x && y) ≡ true → (x ≡ true) × (y ≡ true)
both_parts true true is = (refl, refl)
both_parts true false is = absurd (true≢false (sym is))
both_parts false y is = absurd (true≢false (sym is))

-- what is all in the copy has no line
kept_lines : (n : ObjectId) (steps : List RecordStep) → list_all is_kept steps ≡ true → flat_map (record_lines n) steps ≡ []
kept_lines n [] all = refl
kept_lines n (Written low high bytes ∷ steps) all = kept_lines n steps all
kept_lines n (Hole low high bytes ∷ steps) all = kept_lines n steps all
kept_lines n (Lost low high d ∷ steps) all = absurd (true≢false (sym all))

copied_lines : (steps : List ObjectStep) → list_all is_copied steps ≡ true → flat_map object_lines steps ≡ []
copied_lines [] all = refl
copied_lines (Viewed v records ∷ steps) all =
    let both = both_parts (list_all is_kept records) (list_all is_copied steps) all in
    ap (λ (lines : List ℕ). lines ++ flat_map object_lines steps) (kept_lines (viewed_object v) records both.0) ∙ copied_lines steps both.1
copied_lines (Passed first after d ∷ steps) all = absurd (true≢false (sym all))

module _ (keeps : Bool) (disk : Disk) (skips : Bool) where
  pub copied_whole : (o p : Option (List ℕ)) → CopiesAll keeps disk skips true o p → CopiesAll keeps disk skips true o p × Appends o p []
  copied_whole o p all = (all, subst (λ (lines : List ℕ). Appends o p lines) (copied_lines all.steps (sym all.whole_is)) all.written)

  pub finding_failed : (e : PoolError) (why : Failure) → IsOfNoDamage e → IsFailureFor e why → IsCopyFailure keeps disk skips why
  finding_failed e why undamaged is = inr (stop.Old e, (λ kind address same. absurd (undamaged kind address same)), is)

  pub file_failed : (cause : FileRefusal) (why : Failure) → why ≡ Unusable cause → IsCopyFailure keeps disk skips why
  file_failed cause why is = inl (cause, is)

  pub stop_failed : (s : Stop) (why : Failure) → IsStopOf keeps disk skips s → IsFailureOf s why → IsCopyFailure keeps disk skips why
  stop_failed s why of is = inr (s, of, is)

module _ (keeps : Bool) (a b : Disk) (same : IsTrue keeps → a ≡ b) (skips : Bool) where
  pub whole_moved : (whole : Bool) (o p : Option (List ℕ)) → CopiesAll keeps a skips whole o p → CopiesAll keeps b skips whole o p
  whole_moved whole o p g = record {
    steps = g.steps;
    chain = chain_moved (IsObjectStep keeps a) (IsObjectStep keeps b) (object_moved keeps a b same) 0 object_count g.steps g.chain;
    written = g.written;
    whole_is = g.whole_is;
    strict = g.strict;
  }

  pub failure_moved : (why : Failure) → IsCopyFailure keeps a skips why → IsCopyFailure keeps b skips why
  failure_moved why (inl unusable) = inl unusable
  failure_moved why (inr (s, is, failed)) = inr (s, stop_moved keeps a b same skips s is, failed)

-- nothing is missing of what mounts, so no line fails to be written
pub not_unwritten : (keeps : Bool) (disk : Disk) (skips : Bool) → IsTrue keeps → (contents : Contents) → MountsTo (bytes_of disk.now) contents → (why : Failure) → IsStopFailure keeps disk skips why → why ≢ Unwritten
not_unwritten keeps disk skips kept contents mounts why (stop.Old e, of, is) = λ same. subst (λ (w : Failure). IsFailureFor e w) same is
not_unwritten keeps disk skips kept contents mounts why (stop.New e, of, is) = λ same. subst (λ (w : Failure). IsFailureFor e w) same is
not_unwritten keeps disk skips kept contents mounts why (stop.Unwritten, (passes, none), is) = λ same. none kept contents mounts

-- no failure has the status of a copy of all
pub never_zero : (why : Failure) → failure_status why ≡ 0 → ⊥
never_zero (Refused e) is = cc
never_zero (RefusedCall e call) is = cc
never_zero (OutOfRange number) is = cc
never_zero (Unusable cause) is = cc
never_zero Unwritten is = cc
