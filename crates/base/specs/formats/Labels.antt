-- Label configs: which is chosen, and in which order the two pairs are written.
use Rattle.std.specs.Prelude.{Option, Some, slice_get, ◌≢◌, ℕ, ◌≡◌, ◌≤◌, ◌<◌, ◌-◌, ◌⊎◌, List, [], ◌∷◌, ◌++◌, drop, replicate, length}
use Rattle.base.specs.formats.Names.{IsName}
use Rattle.base.specs.formats.Fields.{part, number_at, number_bytes}
use Rattle.base.specs.formats.Geometry.{block_size, config_place}
use Rattle.base.specs.formats.Blocks.{IsBlock}

-- the payload of a config: version, size of the device, length of the name, the name, zeros
pub record IsConfigPayload (payload : List ℕ) (size : ℕ) (name : List ℕ) : Type 0 where
  pub version : number_at payload 0 ≡ 1
  pub size_is : number_at payload 8 ≡ size
  pub name_length : number_at payload 16 ≡ length name
  pub is_name : IsName name
  pub rest : drop 24 payload ≡ name ++ replicate (4008 - length name) 0

-- as it is written: version, size of the device, length of the name, and the name
abbrev pub config_bytes : ℕ → List ℕ → List ℕ
config_bytes size name = number_bytes 1 ++ number_bytes size ++ number_bytes (length name) ++ name

-- the valid config of a label, of this pool and group and with this name
pub record IsConfig (image : List ℕ) (label guid group : ℕ) (name : List ℕ) : Type 0 where
  pub payload : List ℕ
  pub block : IsBlock (part image (config_place (length image) label) block_size) 1 guid group 0 payload
  pub fields : IsConfigPayload payload (length image) name

-- of the valid configs of a pool and of no higher group the one of the highest group, and then of the lowest label
pub record IsChosen (image : List ℕ) (guid group found : ℕ) (name : List ℕ) : Type 0 where
  pub label : ℕ
  pub in_range : label < 4
  pub stands : IsConfig image label guid found name
  pub not_above : found ≤ group
  pub highest : (k g : ℕ) (other : List ℕ) → k < 4 → g ≤ group → IsConfig image k guid g other → g ≤ found
  pub lowest : (k : ℕ) (other : List ℕ) → k < label → IsConfig image k guid found other → ⊥

-- no label has a valid config of the pool of a group up to this one
abbrev pub HasNoConfig : List ℕ → ℕ → ℕ → Type 0
HasNoConfig image guid group = (k g : ℕ) (name : List ℕ) → k < 4 → g ≤ group → IsConfig image k guid g name → ⊥

-- the two pairs of labels that are written in stages
abbrev pub even_labels : List ℕ
even_labels = 0 ∷ 2 ∷ []

abbrev pub odd_labels : List ℕ
odd_labels = 1 ∷ 3 ∷ []

-- an odd label has the chosen config, so an import may write the even ones first
abbrev pub IsKeptInOdd : List ℕ → ℕ → ℕ → List ℕ → Type 0
IsKeptInOdd image guid found name = IsConfig image 1 guid found name ⊎ IsConfig image 3 guid found name

-- a config as it was read
pub record Config : Type 0 where
  pub guid : ℕ
  pub group : ℕ
  pub size : ℕ
  pub name : List ℕ

-- the label has a config of the pool of a group up to this one
abbrev pub IsCandidate : List (Option Config) → ℕ → ℕ → ℕ → Config → Type 0
IsCandidate configs guid group label c = (slice_get configs label ≡ Some (Some c)) × (c.guid ≡ guid) × (c.group ≤ group)

-- of four labels' configs the candidate of the highest group, and then of the lowest label
pub record IsChoice (configs : List (Option Config)) (guid group : ℕ) (c : Config) : Type 0 where
  pub label : ℕ
  pub candidate : IsCandidate configs guid group label c
  pub highest : (k : ℕ) (other : Config) → IsCandidate configs guid group k other → other.group ≤ c.group
  pub lowest : (k : ℕ) (other : Config) → k < label → IsCandidate configs guid group k other → other.group ≢ c.group

-- no label has a candidate
abbrev pub HasNoCandidate : List (Option Config) → ℕ → ℕ → Type 0
HasNoCandidate configs guid group = (k : ℕ) (c : Config) → IsCandidate configs guid group k c → ⊥
