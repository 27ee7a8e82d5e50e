-- All that a check finds is so of the image, as the search for damages says.
use Rattle.std.proofs.KnownBytes.{Appends-trans}
use Rattle.std.proofs.Common.{◌≡◌, ◌⊎◌, ◌++◌, ◌+◌, ◌<◌, ap, append-nil, append_assoc, arith, drop, get_or, inl, inr, length, map, ℕ, List, [], ◌∷◌, Result, Ok, Err, IsTrue, refl, subst, sym, ◌∙◌}
use Rattle.std.specs.Global.{Vec}
use Rattle.std.specs.Fmt.{decimal}
use Rattle.std.specs.Io.KnownBytes.{Appends}
use Rattle.std.specs.Prelude.{IfErr, IfOk, OnOk, Option, Some, codes}
use Rattle.std.proofs.lemmas.List.{drop_more}
use Rattle.base.specs.declared.error.PoolError.{PoolError}
use Rattle.base.specs.tree.Mount.{MountsTo}
use Rattle.base.specs.declared.error.PoolError.TheVariants.{BadGeometry, Damaged, NoMemory, NoPool, Read}
use Rattle.base.specs.declared.names.Group.{Group}
use Rattle.base.specs.disk.Disk.{bytes_of}
use Rattle.base.specs.formats.Geometry.{IsGeometry}
use Rattle.base.specs.history.Contents.{Contents}
use Rattle.device_model.specs.Reading.{OnlyReads}
use Rattle.device_model.specs.declared.device.SectorDevice.{Ghosts}
use Rattle.file_devices.specs.declared.held_file.FileRefusal.{FileRefusal}
use Rattle.inspections.specs.Inspections.{mount_of}
use Rattle.inspections.specs.Refused.{IsInspectionRefused}
use Rattle.inspections.specs.PoolDamages.{IsOfNoDamage, IsSoundnessOf}
use Rattle.inspections.specs.declared.damages.Soundness.{Soundness}
use Rattle.inspections.specs.declared.damages.Soundness.TheVariants as soundness
use Rattle.inspections.proofs.PoolDamages.{mounted_whole}
use Rattle.trees.specs.declared.damages.BlockDamage.{BlockDamage}
use Rattle.read_commands.specs.FoundDamages.{AreFoundIn, ListsFindings, WritesFindings, all_status, damage_finding, finding_line, finding_lines, found_lines}
use Rattle.read_commands.specs.FoundLabels.{AreLabelStates, HasConfig, label_lines}
use Rattle.read_commands.specs.Checks.{IsCheckRefusal, IsFoundIn, MountsWhole}
use Rattle.read_commands.specs.declared.checks.Finding.{Finding}
use Rattle.read_commands.specs.declared.checks.Finding.TheVariants as finding
use Rattle.read_commands.specs.declared.checks.Finding.TheVariants.{Clean}
use Rattle.read_commands.specs.declared.label_states.LabelState.{LabelState}
use Rattle.read_commands.proofs.Findings.{found_clean}
use Rattle.read_commands.proofs.FoundLabels.{named_of, nothing_of_whole}
use Rattle.read_commands.proofs.MountedBytes.{appended}

module _ {Dev : Type 0} (D : Ghosts Dev) (old new : Dev) where
  pub all_read : (found : Result Soundness PoolError) (r : Result (Vec Finding) PoolError) → ListsFindings found r → OnlyReads D found old new → OnlyReads D r old new
  all_read (Ok s) (Ok list) lists reads = record { size = reads.size; disk = reads.disk; count = reads.count }
  all_read (Ok s) (Err NoMemory) lists reads = record { size = reads.size; disk = reads.disk; count = reads.count }
  all_read (Ok s) (Err e) lists reads = cc
  all_read (Err NoPool) (Ok list) lists reads = record { size = reads.size; disk = reads.disk; count = reads.count }
  all_read (Err NoPool) (Err NoMemory) lists reads = record { size = reads.size; disk = reads.disk; count = reads.count }
  all_read (Err NoPool) (Err e) lists reads = cc
  all_read (Err e) r lists reads = subst (λ (r : Result (Vec Finding) PoolError). OnlyReads D r old new) (sym lists)
      (record { size = reads.size; disk = reads.disk; count = reads.count })

  pub all_found : (found : Result Soundness PoolError) (r : Result (Vec Finding) PoolError) → ListsFindings found r → IsTrue D.keeps_model
      → IfOk found (IsSoundnessOf (bytes_of (D.disk old).now)) → IfErr found (IsInspectionRefused D old new)
      → IfOk r (λ list. AreFoundIn (bytes_of (D.disk old).now) list.items)
  all_found found (Err e) lists keeps sound refused = tt
  all_found (Ok (soundness.Whole i)) (Ok list) lists keeps ((contents, told, mounted), agrees) refused =
      inl (i.group, i.records, lists, (mount_of i contents, mounted, refl, refl))
  all_found (Ok (soundness.Damaged damages)) (Ok list) lists keeps sound refused = inr (inr (damages.items, sound, lists))
  all_found (Err NoPool) (Ok list) lists keeps sound refused = inr (inl (lists, (refused.reason keeps).no_pool refl))
  all_found (Err e) (Ok list) lists keeps sound refused = cc

  pub all_sized : (found : Result Soundness PoolError) (r : Result (Vec Finding) PoolError) → ListsFindings found r
      → OnOk found (IsGeometry (D.size old)) → IfErr found (IsInspectionRefused D old new) → OnOk r (IsGeometry (D.size old))
  all_sized found (Err e) lists made refused = tt
  all_sized (Ok s) (Ok list) lists made refused = made
  all_sized (Err NoPool) (Ok list) lists made refused = refused.kind.0
  all_sized (Err e) (Ok list) lists made refused = cc

  pub all_refused : (found : Result Soundness PoolError) (r : Result (Vec Finding) PoolError) → ListsFindings found r
      → OnOk found (IsGeometry (D.size old)) → IfErr found (IsInspectionRefused D old new) → IfErr found IsOfNoDamage
      → IfErr r (IsCheckRefusal (D.size old))
  all_refused found (Ok list) lists made refused none = tt
  all_refused (Ok s) (Err NoMemory) lists made refused none = made
  all_refused (Ok s) (Err e) lists made refused none = cc
  all_refused (Err NoPool) (Err NoMemory) lists made refused none = refused.kind.0
  all_refused (Err NoPool) (Err e) lists made refused none = cc
  all_refused (Err (Damaged kind address)) r lists made refused none = absurd (none kind address refl)
  all_refused (Err BadGeometry) r lists made refused none = subst (λ (r : Result (Vec Finding) PoolError). IfErr r (IsCheckRefusal (D.size old))) (sym lists) refused.kind
  all_refused (Err NoMemory) r lists made refused none = subst (λ (r : Result (Vec Finding) PoolError). IfErr r (IsCheckRefusal (D.size old))) (sym lists) refused.kind.0
  all_refused (Err Read) r lists made refused none = subst (λ (r : Result (Vec Finding) PoolError). IfErr r (IsCheckRefusal (D.size old))) (sym lists) refused.kind.0
  all_refused (Err _) r lists made refused none = absurd refused.kind.1

-- what was found on a device that was opened is written
module _ {Dev : Type 0} (D : Ghosts Dev) (list : List Finding) (states : List LabelState) (status : ℕ) (before after : Option (List ℕ)) (writes : Appends before after (found_lines list states)) (is : status ≡ all_status list) where
  pub all_written : (opened : Result Dev FileRefusal) → IfOk opened (λ device. IsTrue D.keeps_model → AreFoundIn (bytes_of (D.disk device).now) list)
      → IfOk opened (λ device. IsTrue D.keeps_model → AreLabelStates (bytes_of (D.disk device).now) states) → (wanted : ℕ) → status ≡ wanted
      → IfOk opened (λ device. (found : List Finding) × (all_status found ≡ wanted) × WritesFindings (IsTrue D.keeps_model) (bytes_of (D.disk device).now) found before after)
  all_written (Ok device) found labels wanted same = (list, sym is ∙ same, record { found = found; states = states; labels = labels; writes = writes })
  all_written (Err e) found labels wanted same = tt

  pub written_or_same : (opened : Result Dev FileRefusal) → IfOk opened (λ device. IsTrue D.keeps_model → AreFoundIn (bytes_of (D.disk device).now) list)
      → IfOk opened (λ device. IsTrue D.keeps_model → AreLabelStates (bytes_of (D.disk device).now) states) → (wanted : ℕ) → status ≡ wanted
      → IfOk opened (λ device. (after ≡ before) ⊎ ((found : List Finding) × (all_status found ≡ wanted) × WritesFindings (IsTrue D.keeps_model) (bytes_of (D.disk device).now) found before after))
  written_or_same (Ok device) found labels wanted same = inr (list, sym is ∙ same, record { found = found; states = states; labels = labels; writes = writes })
  written_or_same (Err e) found labels wanted same = tt

-- damages are not clean
not_clean : (damages : List BlockDamage) → (damages ≡ [] → ⊥) → all_status (map damage_finding damages) ≡ 0 → ⊥
not_clean [] some zero = some refl
not_clean (d ∷ damages) some zero = omega (arith, zero)

-- one line more is written
pub next_line : (all : List Finding) (i : ℕ) (d : Finding) (before now after : Option (List ℕ)) (front : List ℕ) → i < length all → Appends before now front
    → finding_lines all ≡ front ++ finding_lines (drop i all) → Appends now after (finding_line (get_or all i d))
    → (lines : List ℕ) × Appends before after lines × (finding_lines all ≡ lines ++ finding_lines (drop (i + 1) all))
next_line all i d before now after front within written left line =
    let f = get_or all i d in (
      front ++ finding_line f,
      Appends-trans before now after front (finding_line f) written line,
      left ∙ ap (λ (l : List Finding). front ++ finding_lines l) (drop_more all i d within) ∙ sym (append_assoc front (finding_line f) (finding_lines (drop (i + 1) all))),
    )

-- the line of a clean pool, part by part
flat : (group records : ℕ) → finding_lines (Clean (record { 0 = group }) records ∷ []) ≡ codes "clean group " ++ (decimal group ++ (codes " records " ++ (decimal records ++ codes "\n")))
flat group records =
    append-nil _
    ∙ append_assoc (codes "clean group ") (decimal group ++ (codes " records " ++ decimal records)) (codes "\n")
    ∙ ap (λ (l : List ℕ). codes "clean group " ++ l) (append_assoc (decimal group) (codes " records " ++ decimal records) (codes "\n")
    ∙ ap (λ (l : List ℕ). decimal group ++ l) (append_assoc (codes " records ") (decimal records) (codes "\n")))

module _ (image : List ℕ) (list : List Finding) (found : AreFoundIn image list) where
  -- a finding of status 0 is that the pool is clean
  pub all_clean : all_status list ≡ 0 → (group : Group) × (records : ℕ) × (list ≡ Clean group records ∷ []) × IsFoundIn image (Clean group records)
  all_clean zero = go found
    where
      go : AreFoundIn image list → (group : Group) × (records : ℕ) × (list ≡ Clean group records ∷ []) × IsFoundIn image (Clean group records)
      go (inl clean) = clean
      go (inr (inl (none, is))) = let no : 1 ≡ 0 = sym (ap all_status none) ∙ zero in absurd (omega (arith, no))
      go (inr (inr (damages, has, are))) = absurd (not_clean damages has.0 (sym (ap all_status are) ∙ zero))

  -- and so the image mounts contents
  pub all_mounted : all_status list ≡ 0 → MountsWhole image
  all_mounted zero = let (group, records, is, (m, mounted, group_is, records_are)) = all_clean zero in (m.contents, (mounted.u, mounted.chain, mounted.mounts))

  -- nothing else is found of an image that mounts contents
  pub clean_alone : (contents : Contents) → MountsTo image contents → (group : Group) × (records : ℕ) × (list ≡ Clean group records ∷ [])
  clean_alone contents (u, chain, mounts) = go found
    where
      go : AreFoundIn image list → (group : Group) × (records : ℕ) × (list ≡ Clean group records ∷ [])
      go (inl (group, records, is, clean)) = (group, records, is)
      go (inr (inl (none, is))) = let no : 1 ≡ 0 = found_clean image u chain contents mounts finding.NoPool is in absurd (omega (arith, no))
      go (inr (inr (damages, has, are))) = absurd (mounted_whole image contents damages (u, chain, mounts) has)

  -- what is written then, where there were no bytes before
  pub clean_line : all_status list ≡ 0 → (states : List LabelState) (before after : Option (List ℕ)) → before ≡ Some [] → Appends before after (found_lines list states)
      → (group : ℕ) × (records : ℕ) × (after ≡ Some ((codes "clean group " ++ (decimal group ++ (codes " records " ++ (decimal records ++ codes "\n")))) ++ label_lines states))
  clean_line zero states before after empty writes =
      let (group, records, is, found) = all_clean zero in (
        group.0,
        records,
        appended after _ (subst (λ (b : Option (List ℕ)). Appends b after (found_lines list states)) empty writes)
            ∙ ap (λ (l : List Finding). Some (finding_lines l ++ label_lines states)) is
            ∙ ap (λ (l : List ℕ). Some (l ++ label_lines states)) (flat group.0 records),
      )

  -- if each label has a valid config it is all
  pub one_line : all_status list ≡ 0 → (states : List LabelState) → AreLabelStates image states → ((label : ℕ) → label < 4 → HasConfig image label) → (before after : Option (List ℕ)) → before ≡ Some [] → Appends before after (found_lines list states)
      → (group : ℕ) × (records : ℕ) × (after ≡ Some (codes "clean group " ++ (decimal group ++ (codes " records " ++ (decimal records ++ codes "\n")))))
  one_line zero states are all before after empty writes =
      let (group, records, is) = clean_line zero states before after empty writes in
      let line : List ℕ = codes "clean group " ++ (decimal group ++ (codes " records " ++ (decimal records ++ codes "\n"))) in
      (group, records, is ∙ ap (λ (l : List ℕ). Some (line ++ l)) (nothing_of_whole image states are all) ∙ ap Some (append-nil line))

  -- a label without a config is named after it, if the others have one
  pub label_named : all_status list ≡ 0 → (states : List LabelState) → AreLabelStates image states → HasConfig image 0 → (HasConfig image 1 → ⊥) → HasConfig image 2 → HasConfig image 3 → (before after : Option (List ℕ)) → before ≡ Some [] → Appends before after (found_lines list states)
      → (front reason : List ℕ) × (after ≡ Some (front ++ (codes "label 1 config none " ++ reason)))
  label_named zero states are first second third fourth before after empty writes =
      let (group, records, is) = clean_line zero states before after empty writes in
      let line : List ℕ = codes "clean group " ++ (decimal group ++ (codes " records " ++ (decimal records ++ codes "\n"))) in
      let (reason, named) = named_of image first second third fourth states are.labels are.each in
      (line, reason, is ∙ ap (λ (l : List ℕ). Some (line ++ l)) named)
