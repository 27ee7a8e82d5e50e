-- Label configs as blocks.
use Rattle.std.specs.Prelude.{ℕ, ◌≡◌, List, drop}
use Rattle.base.specs.formats.Blocks.{IsBlock, sealed_block}
use Rattle.base.specs.formats.Labels.{Config, IsConfigPayload}
use Rattle.checked_blocks.specs.Sealing.{padded}
use Rattle.labels.specs.ConfigBytes.{config_bytes}

-- the block holds this config, on a device of so many bytes
pub record IsConfigBlock (block : List ℕ) (size : ℕ) (c : Config) : Type 0 where
  pub sealed : IsBlock block 1 c.guid c.group 0 (drop 64 block)
  pub fields : IsConfigPayload (drop 64 block) size c.name
  pub size_is : c.size ≡ size

-- a config as it is written
abbrev pub config_block : Config → List ℕ
config_block c = sealed_block 1 c.guid c.group 0 (padded (config_bytes c.size c.name))
