-- What holds of label configs.
use Rattle.std.specs.Prelude.{ℕ, ◌≡◌, ◌<◌, ◌^◌, ◌↔◌, List, length, Option}
use Rattle.base.specs.formats.Names.{IsName}
use Rattle.base.specs.formats.Labels.{Config, IsChoice, HasNoCandidate, IsChosen, HasNoConfig, IsKeptInOdd}
use Rattle.labels.specs.Configs.{IsConfigBlock, config_block}
use Rattle.labels.specs.Choices.{AreRead, IsKeptIn}

-- a config that is written is read back
abbrev pub ConfigsReadBack : Type 0
ConfigsReadBack = (c : Config) → c.guid < 2 ^ 64 → c.group < 2 ^ 64 → c.size < 2 ^ 64 → IsName c.name → IsConfigBlock (config_block c) c.size c

-- a block holds at most one config
abbrev pub ConfigsAreToldApart : Type 0
ConfigsAreToldApart = (block : List ℕ) (size : ℕ) (c d : Config) → IsConfigBlock block size c → IsConfigBlock block size d → c ≡ d

-- what is chosen among the configs of an image's labels, or that there is none, and whether an odd label keeps the
-- choice, is so of the image
pub record IsSoOfImage (image : List ℕ) (configs : List (Option Config)) (guid group : ℕ) : Type 0 where
  pub chosen : (c : Config) → IsChoice configs guid group c → IsChosen image guid group c.group c.name × (c.guid ≡ guid) × (c.size ≡ length image)
  pub none : HasNoCandidate configs guid group → HasNoConfig image guid group
  pub kept : (c : Config) → c.size ≡ length image → IsKeptIn configs c ↔ IsKeptInOdd image c.guid c.group c.name

abbrev pub ChoicesAreChosen : Type 0
ChoicesAreChosen = (image : List ℕ) (configs : List (Option Config)) (guid group : ℕ) → AreRead image configs → IsSoOfImage image configs guid group
