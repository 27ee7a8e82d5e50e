-- Numbers as words of a line.
use Rattle.std.specs.Prelude.{ℕ, ◌<◌, List}
use Rattle.std.specs.Str.Parse.{IsNumeral, digits_value}

-- the number that decimal digits spell, the first digit the highest
abbrev pub spelled_number : List ℕ → ℕ
spelled_number word = digits_value 10 word

-- at least one byte, all decimal digits, and they spell a number below the limit
abbrev pub IsNumberBelow : ℕ → List ℕ → Type 0
IsNumberBelow limit word = IsNumeral 10 word × (spelled_number word < limit)
