-- Which bytes are a name of an object.
use Rattle.std.specs.Prelude.{ℕ, ◌==◌, ◌&&◌, ◌≡◌, Bool, true, not, List, length, nat_le, nat_lt}
use Rattle.std.specs.Char.{is_control}
use Rattle.std.specs.List.{list_all}
use Rattle.std.specs.Str.{chars, is_utf8}

-- the most bytes of a name
abbrev pub max_name : ℕ
max_name = 254

-- a character of a name: no control character, NUL being one, and no `/`
abbrev pub is_name_char : ℕ → Bool
is_name_char c = not (is_control c) && not (c == 47)

-- a length that a name may have
abbrev pub is_name_length : ℕ → Bool
is_name_length n = nat_lt 0 n && nat_le n max_name

-- UTF-8 of such characters
abbrev pub is_name_text : List ℕ → Bool
is_name_text bytes = is_utf8 bytes && list_all is_name_char (chars bytes)

-- 1 to 254 bytes of such text
abbrev pub is_name : List ℕ → Bool
is_name bytes = is_name_length (length bytes) && is_name_text bytes

abbrev pub IsName : List ℕ → Type 0
IsName bytes = is_name bytes ≡ true
