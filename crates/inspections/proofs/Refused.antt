-- What each stop of an inspection says of the image, and leaves of the device.
use Rattle.std.proofs.Common.{◌≡◌, ◌≢◌, inl, inr, ℕ, IsTrue, Result, Ok, Err, IfErr, refl, sym, ◌∙◌, subst}
use Rattle.base.specs.declared.error.PoolError.{PoolError}
use Rattle.base.specs.declared.error.PoolError.TheVariants.{BadGeometry, Damaged, NoMemory, NoPool, NoSpace, Read}
use Rattle.base.specs.disk.Disk.{bytes_of}
use Rattle.base.specs.formats.Geometry.{IsGeometry}
use Rattle.base.specs.tree.Mount.{IsChainDamaged}
use Rattle.device_model.specs.declared.device.SectorDevice.{Ghosts}
use Rattle.log_replay.specs.Replays.{IsReplayCause}
use Rattle.import_replay.specs.ImportRefusals.{IsReason, IsWalkRefusal}
use Rattle.import_replay.proofs.OwnRefusals.{finds_own}
use Rattle.import_replay.proofs.Reasons.{no_reason, reason-open, reason-record}
use Rattle.inspections.specs.Refused.{IsInspectionRefusal, IsInspectionRefused}

-- the records were refused: for memory, or since one can't take place
pub cause_walks : (e : PoolError) → IsReplayCause e → IsWalkRefusal e
cause_walks e (inl is) = subst IsWalkRefusal (sym is) tt
cause_walks e (inr (address, is)) = subst IsWalkRefusal (sym is) tt

-- an inspection, by size, for what it reads, for its records, or for memory, on any device
module _ {Dev : Type 0} (D : Ghosts Dev) where
  pub size_refused : (old : Dev) (e : PoolError) → e ≡ BadGeometry → (IsGeometry (D.size old) → ⊥) → IsInspectionRefused D old old e
  size_refused old e is not_sized = record {
    kind = subst (IsInspectionRefusal (D.size old)) (sym is) not_sized;
    reason = λ keep. no_reason (bytes_of (D.disk old).now) e (inl is);
    found = λ keep. finds_own (D.disk old) e ((no_reason (bytes_of (D.disk old).now) e (inl is)));
    untouched = λ again. refl;
  }

  of_inspection : (size : ℕ) (e : PoolError) → IsGeometry size → IsWalkRefusal e → IsInspectionRefusal size e × (e ≢ BadGeometry)
  of_inspection size NoMemory sized walk = ((sized, tt), λ is. let no : NoMemory ≡ BadGeometry = is in cc)
  of_inspection size Read sized walk = ((sized, tt), λ is. let no : Read ≡ BadGeometry = is in cc)
  of_inspection size NoPool sized walk = ((sized, tt), λ is. let no : NoPool ≡ BadGeometry = is in cc)
  of_inspection size (Damaged kind address) sized walk = ((sized, tt), λ is. let no : Damaged kind address ≡ BadGeometry = is in cc)
  of_inspection size _ sized walk = absurd walk

  pub walk_refused : (old new : Dev) (e : PoolError) → IsGeometry (D.size old) → IsWalkRefusal e → (IsTrue D.keeps_model → IsReason (bytes_of (D.disk old).now) e) → IsInspectionRefused D old new e
  walk_refused old new e sized walk reason =
      let kinds = of_inspection (D.size old) e sized walk in
      record { kind = kinds.0; reason = reason; found = λ keep. finds_own (D.disk old) e ((reason keep)); untouched = λ bad. absurd (kinds.1 bad) }

  pub memory_refused : (old new : Dev) (e : PoolError) → IsGeometry (D.size old) → e ≡ NoMemory → IsInspectionRefused D old new e
  memory_refused old new e sized is =
      walk_refused old new e sized (subst IsWalkRefusal (sym is) tt)
      (λ keep. reason-open (bytes_of (D.disk old).now) e (inl is) (λ full. let no : NoMemory ≡ NoSpace = sym is ∙ full in cc))

  pub records_refused : (old new : Dev) {A : Type 0} (r : Result A PoolError) → IsGeometry (D.size old) → IfErr r IsReplayCause
      → (IsTrue D.keeps_model → IfErr r (λ e. (address : ℕ) → e ≡ Damaged 6 address → IsChainDamaged (bytes_of (D.disk old).now) address)) → IfErr r (IsInspectionRefused D old new)
  records_refused old new (Ok a) sized cause damaged = tt
  records_refused old new (Err e) sized cause damaged = walk_refused old new e sized (cause_walks e cause) (λ keep. reason-record (bytes_of (D.disk old).now) e cause (damaged keep))
