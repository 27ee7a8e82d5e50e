-- The writes of a load's streams, and the bytes that each stream has for itself.
use Rattle.std.specs.Prelude.{ℕ, ◌≡◌, ◌+◌, ◌*◌, ◌/◌, ◌%◌, ◌^◌, ◌≤◌, ◌<◌, ◌⊎◌, nat_lt, if◌then◌else◌}
use Rattle.base.specs.declared.range.ObjectRange.{ObjectRange}

-- where a stream's write begins, by the number drawn for it: half of the writes go to the shared object 16
abbrev pub object_drawn : ℕ → ℕ → ℕ
object_drawn stream drawn = if nat_lt drawn (2 ^ 31) then stream else 16

abbrev pub low_drawn : ℕ → ℕ → ℕ
low_drawn stream drawn = if nat_lt drawn (2 ^ 31) then drawn % 8192 else 1024 * stream + drawn % 960

-- how many bytes it has, and what each of them is
abbrev pub length_drawn : ℕ → ℕ
length_drawn drawn = 1 + drawn / 1024 % 64

abbrev pub byte_drawn : ℕ → ℕ
byte_drawn drawn = drawn / 65536 % 256

-- the place is a stream's own: in the object of its number, or in its part of the shared object
abbrev pub IsOwnPlace : ℕ → ObjectRange → Type 0
IsOwnPlace stream place = (place.object.0 ≡ stream)
    ⊎ ((place.object.0 ≡ 16) × (1024 * stream ≤ place.range.low) × (place.range.high ≤ 1024 * stream + 1024))
