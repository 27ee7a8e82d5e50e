-- Uberblocks of pools with a map of their free blocks, and the active one. They have 4,096 bytes and version 3.
use Rattle.std.specs.Prelude.{ℕ, ◌≡◌, ◌≢◌, ◌≤◌, ◌<◌, List, take, replicate, length}
use Rattle.sha2.specs.Sha256.{sha256}
use Rattle.base.specs.formats.Limits.{first_group, last_number}
use Rattle.base.specs.formats.Fields.{part, number_at, pointer_at}
use Rattle.base.specs.formats.Uberblocks.{Uberblock}
use Rattle.base.specs.formats.Versions.{written_version}
use Rattle.mapped_labels.specs.declared.map_entry.MapEntry.{MapEntry}
use Rattle.mapped_labels.specs.Entries.{map_entry_at}
use Rattle.mapped_labels.specs.Shapes.{mapped_slot_place, mapped_slot_of, mapped_slot_size}

-- the number that such an uberblock has as its version
abbrev pub mapped_version : ℕ
mapped_version = 3

-- What it says of the pool, as a plain pool's does, and what the map says of its highest node. Version 3 has no rules of
-- its own for trees and logs: they are those of version 2, which the state has.
pub record MappedState : Type 0 where
  pub state : Uberblock
  pub map : MapEntry

-- the check of a slot agrees: its last 32 bytes are the digest of those before
abbrev pub IsSealedMappedSlot : List ℕ → Type 0
IsSealedMappedSlot slot = part slot 4064 32 ≡ sha256 (take 4064 slot)

-- these 4,096 bytes are an uberblock
pub record IsMappedUberblock (bytes : List ℕ) (u : MappedState) : Type 0 where
  pub size : length bytes ≡ mapped_slot_size
  pub magic : number_at bytes 0 ≡ 0x00bab10c
  pub version : number_at bytes 8 ≡ mapped_version
  pub group : number_at bytes 16 ≡ u.state.group
  pub guid : number_at bytes 24 ≡ u.state.guid
  pub moment : number_at bytes 32 ≡ u.state.moment
  pub root : pointer_at bytes 40 ≡ u.state.root
  pub import_number : number_at bytes 88 ≡ u.state.import_number
  pub log_address : number_at bytes 96 ≡ u.state.log_address
  pub log_number : number_at bytes 104 ≡ u.state.log_number
  pub map : map_entry_at bytes 112 ≡ u.map
  pub zeros : part bytes 168 3896 ≡ replicate 3896 0
  pub agrees : IsSealedMappedSlot bytes
  pub rules : u.state.version ≡ written_version
  pub no_lower_group : first_group ≤ u.state.group
  pub no_higher_group : u.state.group ≤ last_number
  pub no_higher_import : u.state.import_number ≤ last_number
  pub no_higher_log : u.state.log_number ≤ last_number

-- an uberblock stands in a label, in the slot of its group
abbrev pub StandsInMapped : List ℕ → ℕ → MappedState → Type 0
StandsInMapped image label u = IsMappedUberblock (part image (mapped_slot_place (length image) label (mapped_slot_of u.state.group)) mapped_slot_size) u

-- of those that stand in a label, the one of the highest group, and of the lowest label that has that group
pub record IsMappedActive (image : List ℕ) (u : MappedState) : Type 0 where
  pub label : ℕ
  pub in_range : label < 4
  pub stands : StandsInMapped image label u
  pub highest : (k : ℕ) (other : MappedState) → k < 4 → StandsInMapped image k other → other.state.group ≤ u.state.group
  pub lowest : (k : ℕ) (other : MappedState) → k < label → StandsInMapped image k other → other.state.group ≢ u.state.group

-- no uberblock stands in any label
abbrev pub HasNoMappedUberblock : List ℕ → Type 0
HasNoMappedUberblock image = (k : ℕ) (u : MappedState) → k < 4 → StandsInMapped image k u → ⊥
