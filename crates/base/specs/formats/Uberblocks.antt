-- Uberblocks, and the active one.
use Rattle.std.specs.Prelude.{ℕ, ◌≡◌, ◌≢◌, ◌≤◌, ◌<◌, Bool, true, List, take, replicate, length}
use Rattle.std.specs.Str.{bytes_eq}
use Rattle.sha2.specs.Sha256.{sha256}
use Rattle.base.specs.declared.pointer.Pointer.{Pointer}
use Rattle.base.specs.formats.Limits.{first_group, last_number}
use Rattle.base.specs.formats.Versions.{is_version_known}
use Rattle.base.specs.formats.Fields.{part, number_at, pointer_at}
use Rattle.base.specs.formats.Geometry.{slot_place, slot_of}

-- the version is that of the tree, by whose rules it is read
pub record Uberblock : Type 0 where
  pub version : ℕ
  pub group : ℕ
  pub guid : ℕ
  pub moment : ℕ
  pub root : Pointer
  pub import_number : ℕ
  pub log_address : ℕ
  pub log_number : ℕ

abbrev pub slot_size : ℕ
slot_size = 1024

-- the check of a slot agrees: its last 32 bytes are the digest of those before
abbrev pub IsSealedSlot : List ℕ → Type 0
IsSealedSlot slot = part slot 992 32 ≡ sha256 (take 992 slot)

-- the same, as a test
abbrev pub is_sealed_slot : List ℕ → Bool
is_sealed_slot slot = bytes_eq (part slot 992 32) (sha256 (take 992 slot))

-- these 1,024 bytes are an uberblock
pub record IsUberblock (bytes : List ℕ) (u : Uberblock) : Type 0 where
  pub size : length bytes ≡ slot_size
  pub magic : number_at bytes 0 ≡ 0x00bab10c
  pub version : number_at bytes 8 ≡ u.version
  pub group : number_at bytes 16 ≡ u.group
  pub guid : number_at bytes 24 ≡ u.guid
  pub moment : number_at bytes 32 ≡ u.moment
  pub root : pointer_at bytes 40 ≡ u.root
  pub import_number : number_at bytes 88 ≡ u.import_number
  pub log_address : number_at bytes 96 ≡ u.log_address
  pub log_number : number_at bytes 104 ≡ u.log_number
  pub zeros : part bytes 112 880 ≡ replicate 880 0
  pub agrees : IsSealedSlot bytes
  pub version_known : is_version_known u.version ≡ true
  pub no_lower_group : first_group ≤ u.group
  pub no_higher_group : u.group ≤ last_number
  pub no_higher_import : u.import_number ≤ last_number
  pub no_higher_log : u.log_number ≤ last_number

-- an uberblock stands in a label, in the slot of its group
abbrev pub StandsIn : List ℕ → ℕ → Uberblock → Type 0
StandsIn image label u = IsUberblock (part image (slot_place (length image) label (slot_of u.group)) slot_size) u

-- of those that stand in a label, the one of the highest group, and of the lowest label that has that group
pub record IsActive (image : List ℕ) (u : Uberblock) : Type 0 where
  pub label : ℕ
  pub in_range : label < 4
  pub stands : StandsIn image label u
  pub highest : (k : ℕ) (other : Uberblock) → k < 4 → StandsIn image k other → other.group ≤ u.group
  pub lowest : (k : ℕ) (other : Uberblock) → k < label → StandsIn image k other → other.group ≢ u.group

-- no uberblock stands in any label
abbrev pub HasNoUberblock : List ℕ → Type 0
HasNoUberblock image = (k : ℕ) (u : Uberblock) → k < 4 → StandsIn image k u → ⊥
