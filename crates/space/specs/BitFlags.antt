-- Flags by the bits of words.
use Rattle.std.specs.Prelude.{ℕ, ◌≡◌, ◌≤◌, ◌<◌, ◌*◌, ◌/◌, ◌%◌, ◌^◌, ◌==◌, Bool, List, map, slice_index, vec_len}
use Rattle.std.specs.Int.{bit_at}
use Rattle.std.specs.List.{range_with_len}
use Rattle.space.specs.declared.bit_flags.BitFlags.TheInside.{Inside}

-- flag k is bit k of the words, counted from the lowest bit of the first
abbrev pub flag_at : List ℕ → ℕ → Bool
flag_at words k = bit_at (slice_index words (k / 64)) (k % 64) == 1

-- the first flags of the words, so many
unfoldable pub flags_of : ℕ → List ℕ → List Bool
flags_of count words = map (flag_at words) (range_with_len 0 count)

-- the lowest bit of a word, from a place on, that is 1
pub record IsLowestOne (first word bit : ℕ) : Type 0 where
  pub from : first ≤ bit
  pub within : bit < 64
  pub is_one : bit_at word bit ≡ 1
  pub below : (i : ℕ) → first ≤ i → i < bit → bit_at word i ≡ 0

-- there is a bit for each flag, and a count of them fits a number of 63 bits
pub record HasBits (a : Inside) : Type 0 where
  pub bits : a.count ≤ vec_len a.words * 64
  pub small : a.count < 2 ^ 63
