-- What a check writes of a finding, and what a check of all damages finds and writes.
use Rattle.std.specs.Global.{Vec}
use Rattle.std.specs.Prelude.{ℕ, ◌≡◌, ◌⊎◌, ◌++◌, codes, List, [], ◌∷◌, Option, Ok, Err, Result, MatchResult, map}
use Rattle.std.specs.Fmt.{decimal}
use Rattle.std.specs.Io.KnownBytes.{Appends}
use Rattle.std.specs.List.{flat_map}
use Rattle.base.specs.declared.error.PoolError.{PoolError}
use Rattle.base.specs.declared.error.PoolError.TheVariants as refusal
use Rattle.base.specs.declared.names.Group.{Group}
use Rattle.inspections.specs.PoolDamages.{HasDamages}
use Rattle.inspections.specs.declared.damages.Soundness.{Soundness}
use Rattle.inspections.specs.declared.damages.Soundness.TheVariants as soundness
use Rattle.trees.specs.declared.damages.BlockDamage.{BlockDamage}
use Rattle.read_commands.specs.Checks.{IsFoundIn, finding_status}
use Rattle.read_commands.specs.FoundLabels.{AreLabelStates, label_lines}
use Rattle.read_commands.specs.declared.checks.Finding.{Finding}
use Rattle.read_commands.specs.declared.label_states.LabelState.{LabelState}
use Rattle.read_commands.specs.declared.checks.Finding.TheVariants.{Clean, Damaged, NoPool}

-- what is printed of a finding
abbrev pub finding_text : Finding → List ℕ
finding_text (Clean group records) = codes "clean group " ++ (decimal group.0 ++ (codes " records " ++ decimal records))
finding_text (Damaged kind address) = codes "damaged " ++ (decimal kind ++ (codes " " ++ decimal address))
finding_text NoPool = codes "no pool"

-- a line for each finding
abbrev pub finding_line : Finding → List ℕ
finding_line f = finding_text f ++ codes "\n"

abbrev pub finding_lines : List Finding → List ℕ
finding_lines = flat_map finding_line

-- the finding of a damage
abbrev pub damage_finding : BlockDamage → Finding
damage_finding d = Damaged d.kind d.address

-- what a check of all makes of what was found: a finding, or one for each damage
abbrev pub findings_of : Soundness → List Finding
findings_of (soundness.Whole i) = Clean i.group i.records ∷ []
findings_of (soundness.Damaged list) = map damage_finding list.items

-- So it does, unless there is no memory for them. That there is no pool is a finding, too. It is refused as the search
-- for damages was.
abbrev pub ListsFindings : Result Soundness PoolError → Result (Vec Finding) PoolError → Type 0
ListsFindings (Ok s) result = MatchResult result (λ list. list.items ≡ findings_of s) (λ e. e ≡ refusal.NoMemory)
ListsFindings (Err refusal.NoPool) result = MatchResult result (λ list. list.items ≡ NoPool ∷ []) (λ e. e ≡ refusal.NoMemory)
ListsFindings (Err e) result = result ≡ Err e

-- What a check of all found is so of the image: what it mounts, that it has no pool, all damages of its tree, or that
-- of its log.
abbrev pub AreFoundIn : List ℕ → List Finding → Type 0
AreFoundIn image list = ((group : Group) × (records : ℕ) × (list ≡ Clean group records ∷ []) × IsFoundIn image (Clean group records))
    ⊎ (((list ≡ NoPool ∷ []) × IsFoundIn image NoPool)
    ⊎ ((damages : List BlockDamage) × HasDamages image damages × (list ≡ map damage_finding damages)))

-- the exit status of a check of all: that of its first finding
abbrev pub all_status : List Finding → ℕ
all_status [] = 1
all_status (f ∷ list) = finding_status f

-- A finding was written as a line. It is so of the image of a device that keeps the model.
pub record WritesFinding (keeps : Type 0) (image : List ℕ) (f : Finding) (old new : Option (List ℕ)) : Type 0 where
  pub found : keeps → IsFoundIn image f
  pub writes : Appends old new (finding_line f)

-- so a check wrote it that has this status
abbrev pub WritesOne : ℕ → Type 0 → List ℕ → Option (List ℕ) → Option (List ℕ) → Type 0
WritesOne status keeps image old new = (found : Finding) × (finding_status found ≡ status) × WritesFinding keeps image found old new

-- the lines of findings, and then those of labels
abbrev pub found_lines : List Finding → List LabelState → List ℕ
found_lines list states = finding_lines list ++ label_lines states

-- All findings were written, a line each, and then a line for each label without a valid config, if another one has one.
-- They are so of the image of a device that keeps the model.
pub record WritesFindings (keeps : Type 0) (image : List ℕ) (list : List Finding) (old new : Option (List ℕ)) : Type 0 where
  pub found : keeps → AreFoundIn image list
  pub states : List LabelState
  pub labels : keeps → AreLabelStates image states
  pub writes : Appends old new (found_lines list states)

-- so a check of all wrote them that has this status
abbrev pub WritesAll : ℕ → Type 0 → List ℕ → Option (List ℕ) → Option (List ℕ) → Type 0
WritesAll status keeps image old new = (list : List Finding) × (all_status list ≡ status) × WritesFindings keeps image list old new
