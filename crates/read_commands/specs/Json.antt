-- What `show`, `ls` and `check` print as JSON.
use Rattle.std.specs.Prelude.{ℕ, ◌≡◌, ◌++◌, if◌then◌else◌, Bool, true, false, codes, List, [], ◌∷◌, Option}
use Rattle.std.specs.Fmt.{decimal}
use Rattle.std.specs.Io.KnownBytes.{Appends}
use Rattle.std.specs.List.{flat_map}
use Rattle.base.specs.declared.names.ObjectId.{ObjectId}
use Rattle.inspections.specs.declared.inspection.Inspected.{Inspected}
use Rattle.read_commands.specs.Checks.{IsFoundIn, finding_status}
use Rattle.read_commands.specs.FoundDamages.{AreFoundIn, all_status}
use Rattle.read_commands.specs.FoundLabels.{AreLabelStates, is_whole, some_whole}
use Rattle.read_commands.specs.declared.checks.Finding.{Finding}
use Rattle.read_commands.specs.declared.checks.Finding.TheVariants.{Clean, Damaged, NoPool}
use Rattle.read_commands.specs.declared.label_states.ConfigState.{ConfigState}
use Rattle.read_commands.specs.declared.label_states.ConfigState.TheVariants.{OtherSize, Unchecked, Whole, Zeroed}
use Rattle.read_commands.specs.declared.label_states.LabelState.{LabelState}
use Rattle.read_commands.specs.ObjectBlocks.{most_blocks}

-- an object with its length and its blocks
abbrev pub json_object : ObjectId × ℕ → List ℕ
json_object object = codes "{\"object\":" ++ (decimal object.0.0 ++ (codes ",\"length\":" ++ (decimal object.1 ++ (codes ",\"blocks\":" ++ (decimal (most_blocks object.1) ++ codes "}")))))

-- the same after another one
abbrev pub json_next : ObjectId × ℕ → List ℕ
json_next object = codes "," ++ json_object object

-- a list of objects, and what closes the report around it
abbrev pub json_objects : List (ObjectId × ℕ) → List ℕ
json_objects [] = codes "[]}\n"
json_objects (object ∷ rest) = codes "[" ++ (json_object object ++ (flat_map json_next rest ++ codes "]}\n"))

-- what is printed of the objects of a pool
abbrev pub json_listed : List (ObjectId × ℕ) → List ℕ
json_listed objects = codes "{\"objects\":" ++ json_objects objects

-- the name and the numbers of a pool, up to its objects; the guid is a text, since it may pass 2^53
abbrev pub json_numbers : Inspected → List ℕ
json_numbers i =
    codes "{\"name\":\"" ++ (i.name ++ (codes "\",\"guid\":\"" ++ (decimal i.guid ++ (codes "\",\"group\":" ++ (decimal i.group.0
    ++ (codes ",\"import\":" ++ (decimal i.import_number ++ (codes ",\"blocks\":" ++ (decimal i.blocks ++ (codes ",\"used\":" ++ (decimal i.used
    ++ (codes ",\"records\":" ++ (decimal i.records ++ codes ",\"objects\":")))))))))))))

-- what is printed of a pool
abbrev pub json_shown : Inspected → List ℕ
json_shown i = json_numbers i ++ json_objects i.objects.items

-- a damage: the kind of the block, and its address
abbrev pub json_damage : ℕ → ℕ → List ℕ
json_damage kind address = codes "{\"kind\":" ++ (decimal kind ++ (codes ",\"address\":" ++ (decimal address ++ codes "}")))

-- what is printed of a finding
abbrev pub json_finding : Finding → List ℕ
json_finding (Clean group records) = codes "{\"state\":\"clean\",\"group\":" ++ (decimal group.0 ++ (codes ",\"records\":" ++ (decimal records ++ codes "}")))
json_finding (Damaged kind address) = codes "{\"state\":\"damaged\",\"damages\":[" ++ (json_damage kind address ++ codes "]}")
json_finding NoPool = codes "{\"state\":\"no pool\"}"

-- A finding was printed so. It is so of the image of a device that keeps the model.
pub record PrintsFinding (keeps : Type 0) (image : List ℕ) (f : Finding) (old new : Option (List ℕ)) : Type 0 where
  pub found : keeps → IsFoundIn image f
  pub writes : Appends old new (json_finding f ++ codes "\n")

-- a damage after another one
abbrev pub json_more : Finding → List ℕ
json_more (Clean group records) = []
json_more (Damaged kind address) = codes "," ++ json_damage kind address
json_more NoPool = []

-- a list of damages, of which the first one has this kind and this address
abbrev pub json_damages : ℕ → ℕ → List Finding → List ℕ
json_damages kind address rest = codes "{\"state\":\"damaged\",\"damages\":[" ++ (json_damage kind address ++ (flat_map json_more rest ++ codes "]"))

-- what is printed of all findings, by the first one and the others, up to the labels
abbrev pub json_state : Finding → List Finding → List ℕ
json_state (Clean group records) rest = codes "{\"state\":\"clean\",\"group\":" ++ (decimal group.0 ++ (codes ",\"records\":" ++ decimal records))
json_state (Damaged kind address) rest = json_damages kind address rest
json_state NoPool rest = codes "{\"state\":\"no pool\""

abbrev pub json_findings : List Finding → List ℕ
json_findings [] = codes "{\"state\":\"damaged\",\"damages\":[]"
json_findings (first ∷ rest) = json_state first rest

-- why a label has no valid config
abbrev pub json_reason_of : ℕ → ConfigState → List ℕ
json_reason_of label Whole = []
json_reason_of label (OtherSize size) = codes "{\"label\":" ++ (decimal label ++ (codes ",\"reason\":\"size\",\"size\":" ++ (decimal size ++ codes "}")))
json_reason_of label Zeroed = codes "{\"label\":" ++ (decimal label ++ codes ",\"reason\":\"zeros\"}")
json_reason_of label Unchecked = codes "{\"label\":" ++ (decimal label ++ codes ",\"reason\":\"check\"}")

abbrev pub json_reason : LabelState → List ℕ
json_reason s = json_reason_of s.label s.config

-- what stands before a label, the first one or another
abbrev pub json_comma : Bool → List ℕ
json_comma true = []
json_comma false = codes ","

-- the labels without a valid config, with commas between them
abbrev pub json_reasons : Bool → List LabelState → List ℕ
json_reasons is_first [] = []
json_reasons is_first (s ∷ rest) =
    if is_whole s.config then json_reasons is_first rest else json_comma is_first ++ (json_reason s ++ json_reasons false rest)

-- what is printed of four labels: none, if no label has a valid config
abbrev pub json_lost : List LabelState → List ℕ
json_lost states = if some_whole states then json_reasons true states else []

abbrev pub json_labels : List LabelState → List ℕ
json_labels states = codes ",\"labels\":[" ++ (json_lost states ++ codes "]}\n")

-- what is printed of all findings and of the labels
abbrev pub json_found : List Finding → List LabelState → List ℕ
json_found list states = json_findings list ++ json_labels states

-- All findings were printed so, and then the labels without a valid config, if another one has one. They are so of the
-- image of a device that keeps the model.
pub record PrintsFindings (keeps : Type 0) (image : List ℕ) (list : List Finding) (old new : Option (List ℕ)) : Type 0 where
  pub found : keeps → AreFoundIn image list
  pub states : List LabelState
  pub labels : keeps → AreLabelStates image states
  pub writes : Appends old new (json_found list states)

-- so a check printed what it found that has this status, and a check of all
abbrev pub PrintsOne : ℕ → Type 0 → List ℕ → Option (List ℕ) → Option (List ℕ) → Type 0
PrintsOne status keeps image old new = (found : Finding) × (finding_status found ≡ status) × PrintsFinding keeps image found old new

abbrev pub PrintsAll : ℕ → Type 0 → List ℕ → Option (List ℕ) → Option (List ℕ) → Type 0
PrintsAll status keeps image old new = (list : List Finding) × (all_status list ≡ status) × PrintsFindings keeps image list old new
