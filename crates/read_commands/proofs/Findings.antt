-- What a check finds is so of the image, as an inspection of it says, and is what it writes. An image that mounts
-- contents is found clean.
use Rattle.std.proofs.Common.{◌≡◌, ◌⊎◌, [], ap, arith, inl, inr, ℕ, List, Result, Ok, Err, IsTrue, refl, subst, sym, ◌∙◌}
use Rattle.std.specs.Fmt.{digits}
use Rattle.std.specs.Io.KnownBytes.{Appends}
use Rattle.std.specs.Prelude.{IfErr, IfOk, OnOk, Option, Some, codes}
use Rattle.base.specs.declared.error.PoolError.{PoolError}
use Rattle.base.specs.declared.error.PoolError.TheVariants.{BadGeometry, Damaged, NoMemory, NoPool, Read}
use Rattle.base.specs.tree.Mount.{Mounts}
use Rattle.base.specs.disk.Disk.{bytes_of}
use Rattle.base.specs.formats.Chain.{LogPiece}
use Rattle.base.specs.formats.Geometry.{IsGeometry}
use Rattle.base.specs.formats.Uberblocks.{Uberblock}
use Rattle.base.specs.history.Contents.{Contents}
use Rattle.base.proofs.crash.LogChains.{mounted_not_damaged}
use Rattle.device_model.specs.Reading.{OnlyReads}
use Rattle.device_model.specs.declared.device.SectorDevice.{Ghosts}
use Rattle.file_devices.specs.declared.held_file.FileRefusal.{FileRefusal}
use Rattle.inspections.specs.Inspections.{IsInspectionOf, mount_of}
use Rattle.inspections.specs.Refused.{IsInspectionRefused}
use Rattle.inspections.specs.declared.inspection.Inspected.{Inspected}
use Rattle.import_replay.proofs.OwnRefusals.{has_pool, is_sound}
use Rattle.read_commands.specs.Checks.{IsCheckRefusal, IsFoundIn, MountsWhole, finding_status, found_of}
use Rattle.read_commands.specs.FoundDamages.{WritesFinding, finding_line}
use Rattle.read_commands.specs.declared.checks.Finding.{Finding}
use Rattle.read_commands.specs.declared.checks.Finding.TheVariants as finding
use Rattle.read_commands.proofs.MountedBytes.{appended}

module _ {Dev : Type 0} (D : Ghosts Dev) where
  pub reads_alone : (r : Result Inspected PoolError) (old new : Dev) → OnlyReads D r old new → OnlyReads D (found_of r) old new
  reads_alone (Ok i) old new reads = record { size = reads.size; disk = reads.disk; count = reads.count }
  reads_alone (Err (Damaged kind address)) old new reads = record { size = reads.size; disk = reads.disk; count = reads.count }
  reads_alone (Err NoPool) old new reads = record { size = reads.size; disk = reads.disk; count = reads.count }
  reads_alone (Err _) old new reads = record { size = reads.size; disk = reads.disk; count = reads.count }

  pub is_found : (r : Result Inspected PoolError) (old new : Dev) → IsTrue D.keeps_model
      → IfOk r (IsInspectionOf (bytes_of (D.disk old).now)) → IfErr r (IsInspectionRefused D old new)
      → IfOk (found_of r) (IsFoundIn (bytes_of (D.disk old).now))
  is_found (Ok i) old new keeps (contents, told, mounted) refused = (mount_of i contents, mounted, refl, refl)
  is_found (Err (Damaged kind address)) old new keeps found refused = (refused.reason keeps).damaged kind address refl
  is_found (Err NoPool) old new keeps found refused = (refused.reason keeps).no_pool refl
  is_found (Err _) old new keeps found refused = tt

  pub check_refused : (r : Result Inspected PoolError) (old new : Dev) → IfErr r (IsInspectionRefused D old new)
      → IfErr (found_of r) (IsCheckRefusal (D.size old))
  check_refused (Ok i) old new refused = tt
  check_refused (Err (Damaged kind address)) old new refused = tt
  check_refused (Err NoPool) old new refused = tt
  check_refused (Err BadGeometry) old new refused = refused.kind
  check_refused (Err NoMemory) old new refused = refused.kind.0
  check_refused (Err Read) old new refused = refused.kind.0
  check_refused (Err _) old new refused = refused.kind.1

  pub is_sized : (r : Result Inspected PoolError) (old new : Dev) → OnOk r (IsGeometry (D.size old)) → IfErr r (IsInspectionRefused D old new)
      → OnOk (found_of r) (IsGeometry (D.size old))
  is_sized (Ok i) old new made refused = made
  is_sized (Err (Damaged kind address)) old new made refused = refused.kind.0
  is_sized (Err NoPool) old new made refused = refused.kind.0
  is_sized (Err _) old new made refused = tt

  -- what was found on a device that was opened is written as a line
  pub finding_written : (opened : Result Dev FileRefusal) (finding : Finding) (status wanted : ℕ) (before after : Option (List ℕ)) → Appends before after (finding_line finding)
      → status ≡ finding_status finding → IfOk opened (λ device. IsTrue D.keeps_model → IsFoundIn (bytes_of (D.disk device).now) finding) → status ≡ wanted
      → IfOk opened (λ device. (found : Finding) × (finding_status found ≡ wanted) × WritesFinding (IsTrue D.keeps_model) (bytes_of (D.disk device).now) found before after)
  finding_written (Ok device) finding status wanted before after writes is found same = (finding, sym is ∙ same, record { found = found; writes = writes })
  finding_written (Err e) finding status wanted before after writes is found same = tt

-- an image that mounts contents
module _ (image : List ℕ) (u : Uberblock) (chain : List LogPiece) (contents : Contents) (mounts : Mounts image u chain contents) where
  -- is found clean
  pub found_clean : (finding : Finding) → IsFoundIn image finding → finding_status finding ≡ 0
  found_clean (finding.Clean group records) found = refl
  found_clean (finding.Damaged kind address) (inl damaged) = absurd (is_sound image u chain contents mounts kind address damaged)
  found_clean (finding.Damaged kind address) (inr (is, damaged)) = absurd (mounted_not_damaged image contents address (u, chain, mounts) damaged)
  found_clean finding.NoPool found = absurd (has_pool image u chain contents mounts found)

-- a finding of status 0 is that the image mounts contents
pub is_whole : (image : List ℕ) (finding : Finding) → IsFoundIn image finding → finding_status finding ≡ 0 → MountsWhole image
is_whole image (finding.Clean group records) (m, is, group_is, records_are) clean = (m.contents, (is.u, is.chain, is.mounts))
is_whole image (finding.Damaged kind address) found clean = let no : 1 ≡ 0 = clean in absurd (omega (arith, no))
is_whole image finding.NoPool found clean = let no : 1 ≡ 0 = clean in absurd (omega (arith, no))

-- the line of this damage
damaged_line : finding_line (finding.Damaged 5 4194304) ≡ codes "damaged 5 4194304\n"
unfolding digits
damaged_line = refl

-- what is written, where there were no bytes before, if this damage is all that a check can find
module _ (keeps : Type 0) (image : List ℕ) (before after : Option (List ℕ)) (kept : keeps) (alone : (f : Finding) → IsFoundIn image f → f ≡ finding.Damaged 5 4194304) (empty : before ≡ Some []) where
  damage_written : (found : Finding) → WritesFinding keeps image found before after → after ≡ Some (codes "damaged 5 4194304\n")
  damage_written found w =
      let line : Appends (Some []) after (finding_line (finding.Damaged 5 4194304)) = subst (λ (f : Finding). Appends (Some []) after (finding_line f)) (alone found (w.found kept))
      (subst (λ (b : Option (List ℕ)). Appends b after (finding_line found)) empty w.writes) in
      appended after _ line ∙ ap Some damaged_line

  pub damage_printed : (after ≡ before) ⊎ ((found : Finding) × (finding_status found ≡ 1) × WritesFinding keeps image found before after)
      → (after ≡ Some []) ⊎ (after ≡ Some (codes "damaged 5 4194304\n"))
  damage_printed (inl same) = inl (same ∙ empty)
  damage_printed (inr (found, one, w)) = inr (damage_written found w)
