-- What a check prints as JSON is what it found.
use Rattle.std.proofs.Common.{◌≡◌, ◌⊎◌, ◌++◌, ◌<◌, ap, append_assoc, inl, inr, ℕ, List, [], ◌∷◌, Result, Ok, Err, IsTrue, refl, subst, sym, ◌∙◌}
use Rattle.std.specs.Fmt.{decimal, digits}
use Rattle.std.specs.Io.KnownBytes.{Appends}
use Rattle.std.specs.Prelude.{IfOk, Option, Some, codes}
use Rattle.base.specs.disk.Disk.{bytes_of}
use Rattle.device_model.specs.declared.device.SectorDevice.{Ghosts}
use Rattle.file_devices.specs.declared.held_file.FileRefusal.{FileRefusal}
use Rattle.read_commands.specs.Checks.{IsFoundIn, finding_status}
use Rattle.read_commands.specs.FoundDamages.{AreFoundIn, all_status}
use Rattle.read_commands.specs.FoundLabels.{AreLabelStates, HasConfig}
use Rattle.read_commands.specs.declared.checks.Finding.{Finding}
use Rattle.read_commands.specs.declared.checks.Finding.TheVariants.{Clean, Damaged}
use Rattle.read_commands.specs.declared.label_states.LabelState.{LabelState}
use Rattle.read_commands.proofs.CheckedAll.{all_clean}
use Rattle.read_commands.proofs.MountedBytes.{appended}
use Rattle.read_commands.specs.Json.{PrintsFinding, PrintsFindings, json_finding, json_found, json_lost}
use Rattle.read_commands.proofs.PrintedLabels.{none_lost}

pub finding_printed : {Dev : Type 0} (D : Ghosts Dev) (opened : Result Dev FileRefusal) (finding : Finding) (status wanted : ℕ) (before after : Option (List ℕ)) → Appends before after (json_finding finding ++ codes "\n")
    → status ≡ finding_status finding → IfOk opened (λ device. IsTrue D.keeps_model → IsFoundIn (bytes_of (D.disk device).now) finding) → status ≡ wanted
    → IfOk opened (λ device. (found : Finding) × (finding_status found ≡ wanted) × PrintsFinding (IsTrue D.keeps_model) (bytes_of (D.disk device).now) found before after)
finding_printed D (Ok device) finding status wanted before after writes is found same = (finding, sym is ∙ same, record { found = found; writes = writes })
finding_printed D (Err e) finding status wanted before after writes is found same = tt

-- all that was found on a device that was opened is printed
module _ {Dev : Type 0} (D : Ghosts Dev) (list : List Finding) (states : List LabelState) (status : ℕ) (before after : Option (List ℕ)) (writes : Appends before after (json_found list states)) (is : status ≡ all_status list) where
  pub all_printed : (opened : Result Dev FileRefusal) → IfOk opened (λ device. IsTrue D.keeps_model → AreFoundIn (bytes_of (D.disk device).now) list)
      → IfOk opened (λ device. IsTrue D.keeps_model → AreLabelStates (bytes_of (D.disk device).now) states) → (wanted : ℕ) → status ≡ wanted
      → IfOk opened (λ device. (found : List Finding) × (all_status found ≡ wanted) × PrintsFindings (IsTrue D.keeps_model) (bytes_of (D.disk device).now) found before after)
  all_printed (Ok device) found labels wanted same = (list, sym is ∙ same, record { found = found; states = states; labels = labels; writes = writes })
  all_printed (Err e) found labels wanted same = tt

  pub printed_or_same : (opened : Result Dev FileRefusal) → IfOk opened (λ device. IsTrue D.keeps_model → AreFoundIn (bytes_of (D.disk device).now) list)
      → IfOk opened (λ device. IsTrue D.keeps_model → AreLabelStates (bytes_of (D.disk device).now) states) → (wanted : ℕ) → status ≡ wanted
      → IfOk opened (λ device. (after ≡ before) ⊎ ((found : List Finding) × (all_status found ≡ wanted) × PrintsFindings (IsTrue D.keeps_model) (bytes_of (D.disk device).now) found before after))
  printed_or_same (Ok device) found labels wanted same = inr (list, sym is ∙ same, record { found = found; states = states; labels = labels; writes = writes })
  printed_or_same (Err e) found labels wanted same = tt

-- this damage as it is printed
damaged_json : json_finding (Damaged 5 4194304) ++ codes "\n" ≡ codes "{\"state\":\"damaged\",\"damages\":[{\"kind\":5,\"address\":4194304}]}\n"
unfolding digits
damaged_json = refl

-- it is printed if it is all that a check can find, where there were no bytes before
module _ (keeps : Type 0) (image : List ℕ) (before after : Option (List ℕ)) (kept : keeps) (alone : (f : Finding) → IsFoundIn image f → f ≡ Damaged 5 4194304) (empty : before ≡ Some []) where
  damage_alone : (found : Finding) → PrintsFinding keeps image found before after → after ≡ Some (codes "{\"state\":\"damaged\",\"damages\":[{\"kind\":5,\"address\":4194304}]}\n")
  damage_alone found w =
      let text : Appends (Some []) after (json_finding (Damaged 5 4194304) ++ codes "\n") = subst (λ (f : Finding). Appends (Some []) after (json_finding f ++ codes "\n")) (alone found (w.found kept))
      (subst (λ (b : Option (List ℕ)). Appends b after (json_finding found ++ codes "\n")) empty w.writes) in
      appended after _ text ∙ ap Some damaged_json

  pub damage_as_json : (after ≡ before) ⊎ ((found : Finding) × (finding_status found ≡ 1) × PrintsFinding keeps image found before after)
      → (after ≡ Some []) ⊎ (after ≡ Some (codes "{\"state\":\"damaged\",\"damages\":[{\"kind\":5,\"address\":4194304}]}\n"))
  damage_as_json (inl same) = inl (same ∙ empty)
  damage_as_json (inr (found, one, w)) = inr (damage_alone found w)

-- what is printed of a clean pool of which no label is named, part by part
clean_json : (group records : ℕ) (states : List LabelState) → json_lost states ≡ []
    → json_found (Clean (record { 0 = group }) records ∷ []) states ≡ codes "{\"state\":\"clean\",\"group\":" ++ (decimal group ++ (codes ",\"records\":" ++ (decimal records ++ codes ",\"labels\":[]}\n")))
clean_json group records states none =
    ap (λ (l : List ℕ). (codes "{\"state\":\"clean\",\"group\":" ++ (decimal group ++ (codes ",\"records\":" ++ decimal records))) ++ (codes ",\"labels\":[" ++ (l ++ codes "]}\n"))) none
    ∙ append_assoc (codes "{\"state\":\"clean\",\"group\":") (decimal group ++ (codes ",\"records\":" ++ decimal records)) (codes ",\"labels\":[]}\n")
    ∙ ap (λ (l : List ℕ). codes "{\"state\":\"clean\",\"group\":" ++ l) (append_assoc (decimal group) (codes ",\"records\":" ++ decimal records) (codes ",\"labels\":[]}\n")
    ∙ ap (λ (l : List ℕ). decimal group ++ l) (append_assoc (codes ",\"records\":") (decimal records) (codes ",\"labels\":[]}\n")))

-- so it is of a pool that was found clean and of which each label has a config, where there were no bytes before
pub whole_as_json : (image : List ℕ) (list : List Finding) → AreFoundIn image list → all_status list ≡ 0 → (states : List LabelState) → AreLabelStates image states
    → ((label : ℕ) → label < 4 → HasConfig image label) → (before after : Option (List ℕ)) → before ≡ Some [] → Appends before after (json_found list states)
    → (group : ℕ) × (records : ℕ) × (after ≡ Some (codes "{\"state\":\"clean\",\"group\":" ++ (decimal group ++ (codes ",\"records\":" ++ (decimal records ++ codes ",\"labels\":[]}\n")))))
whole_as_json image list found zero states are all before after empty writes =
    let (group, records, is, clean) = all_clean image list found zero in (
      group.0,
      records,
      appended after _ (subst (λ (b : Option (List ℕ)). Appends b after (json_found list states)) empty writes)
          ∙ ap (λ (l : List Finding). Some (json_found l states)) is
          ∙ ap Some (clean_json group.0 records states (none_lost image all states are)),
    )
