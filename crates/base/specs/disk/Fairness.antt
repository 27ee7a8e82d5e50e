-- Fair images: none in which a place passes its check by chance, and which places the format checks.
use Rattle.std.specs.Prelude.{ℕ, ◌≡◌, ◌<◌, ◌⊎◌, ◌-◌, ◌/◌, ◌==◌, ◌&&◌, ◌||◌, Bool, true, not, List, [], ◌∷◌, length, nat_lt}
use Rattle.std.specs.List.{list_any}
use Rattle.base.specs.formats.Fields.{part, number_at}
use Rattle.base.specs.formats.Geometry.{IsBlockAddress, block_size, block_area, block_count, block_address, config_place, slot_place}
use Rattle.base.specs.formats.Blocks.{is_sealed}
use Rattle.base.specs.formats.Uberblocks.{is_sealed_slot, slot_size}
use Rattle.base.specs.disk.Disk.{Write, Moment, Disk, bytes_of, handed, disk_size, HandedSince, MayLeave, EachMoment}

-- Each place that passes its check has the bytes of a write since t that still counts, handed whole for that place.
-- The test says of n bytes at a place that the format checks this place, and that they pass.
abbrev pub IsFair : (ℕ → ℕ → List ℕ → Bool) → ℕ → List Write → List ℕ → Type 0
IsFair passes t writes image = (place n : ℕ) → passes place n (part image place n) ≡ true → HandedSince t writes place (part image place n)

-- at this moment no writes count but those of the base and these
abbrev pub HandsOnly : ℕ → (ℕ → List ℕ → Type 0) → List Write → Moment → Type 0
HandsOnly t Allowed base m = (place : ℕ) (content : List ℕ) → HandedSince t (handed m) place content → Allowed place content ⊎ HandedSince t base place content

-- whether a place is that of a block, of a label's config, or of a slot of a label, on a device of so many bytes
abbrev pub block_at : ℕ → ℕ
block_at place = (place - block_area) / block_size

abbrev pub is_block_place : ℕ → ℕ → Bool
is_block_place size place = nat_lt (block_at place) (block_count size) && (place == block_address (block_at place))

abbrev pub label_numbers : List ℕ
label_numbers = 0 ∷ 1 ∷ 2 ∷ 3 ∷ []

abbrev pub is_config_place : ℕ → ℕ → Bool
is_config_place size place = list_any (λ label. place == config_place size label) label_numbers

abbrev pub slot_at : ℕ → ℕ → ℕ → ℕ
slot_at size label place = (place - slot_place size label 0) / slot_size

abbrev pub is_slot_place : ℕ → ℕ → Bool
is_slot_place size place = list_any (λ label. nat_lt (slot_at size label place) 128 && (place == slot_place size label (slot_at size label place))) label_numbers

-- whether bytes begin with a number other than 0, as those of each block and of each uberblock do: with its kind, or
-- its magic
abbrev pub begins_with_mark : List ℕ → Bool
begins_with_mark bytes = not (number_at bytes 0 == 0)

-- whether the format checks so many bytes at a place, and these bytes pass: a block, a config or a slot whose check
-- agrees
abbrev pub passes_check : ℕ → ℕ → ℕ → List ℕ → Bool
passes_check size place n bytes =
    ((n == block_size) && ((is_block_place size place || is_config_place size place) && (is_sealed bytes && begins_with_mark bytes)))
    || ((n == slot_size) && (is_slot_place size place && (is_sealed_slot bytes && begins_with_mark bytes)))

-- so many bytes at a place are a block, a label's config, or a slot of a label: a place that the format checks
abbrev pub IsCheckedPlace : ℕ → ℕ → ℕ → Type 0
IsCheckedPlace size place n =
    ((n ≡ block_size) × (IsBlockAddress (block_count size) place ⊎ ((label : ℕ) × (label < 4) × (place ≡ config_place size label))))
    ⊎ ((n ≡ slot_size) × ((label : ℕ) × (slot : ℕ) × (label < 4) × (slot < 128) × (place ≡ slot_place size label slot)))

-- the image is fair for a pool on this disk whose create began at this moment
abbrev pub IsFairOn : Disk → ℕ → List ℕ → Type 0
IsFairOn disk created image = IsFair (passes_check (disk_size disk)) created (handed disk.now) image

-- what a read gives at this moment is fair for a pool whose create began at the moment t
pub record HasFairBytes (size t : ℕ) (m : Moment) : Type 0 where
  pub size_is : length (bytes_of m) ≡ size
  pub fair : IsFair (passes_check size) t (handed m) (bytes_of m)

-- At this moment what a read gives is fair, and a crash leaves only images that have P, or that are not fair. So P
-- holds for one image at least, and t is no later than the writes that handed the sealed places of what a read gives.
pub record LeavesFair (size t : ℕ) (P : List ℕ → Type 0) (m : Moment) : Type 0 where
  pub bytes : HasFairBytes size t m
  pub each : (image : List ℕ) → MayLeave m image → IsFair (passes_check size) t (handed m) image → P image

-- it is so now
abbrev pub LeavesFairNow : Disk → ℕ → (List ℕ → Type 0) → Type 0
LeavesFairNow disk created P = LeavesFair (disk_size disk) created P disk.now

-- and at each moment from the old disk's to the new disk's
abbrev pub LeavesFairSince : Disk → Disk → ℕ → (List ℕ → Type 0) → Type 0
LeavesFairSince old new created P = EachMoment (LeavesFair (disk_size old) created P) old new
