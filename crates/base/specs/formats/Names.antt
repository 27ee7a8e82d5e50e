-- Which bytes are a pool's name.
use Rattle.std.specs.Prelude.{ℕ, ◌==◌, ◌&&◌, ◌||◌, ◌≡◌, Bool, true, List, length, nat_lt, nat_le, slice_index}
use Rattle.std.specs.List.{list_all}
use Rattle.base.specs.formats.Limits.{max_name}

-- an ASCII letter
abbrev pub is_letter : ℕ → Bool
is_letter c = (nat_le 65 c && nat_le c 90) || (nat_le 97 c && nat_le c 122)

abbrev pub is_digit : ℕ → Bool
is_digit c = nat_le 48 c && nat_le c 57

-- a letter, a digit, `-`, `_` or `.`
abbrev pub is_name_byte : ℕ → Bool
is_name_byte c = is_letter c || is_digit c || (c == 45) || (c == 95) || (c == 46)

-- a length that a name may have
abbrev pub is_name_length : ℕ → Bool
is_name_length n = nat_lt 0 n && nat_le n max_name

-- 1 to 64 of these bytes, of which the first is a letter
abbrev pub is_name : List ℕ → Bool
is_name bytes = is_name_length (length bytes) && is_letter (slice_index bytes 0) && list_all is_name_byte bytes

abbrev pub IsName : List ℕ → Type 0
IsName bytes = is_name bytes ≡ true
