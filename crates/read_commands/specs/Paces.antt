-- How often the line is written. Times are in microseconds since the work began.
use Rattle.std.specs.Prelude.{ℕ}

-- it has no text before this time
abbrev pub first_text : ℕ
first_text = 1000000

-- each text stays so long at least
abbrev pub least_stay : ℕ
least_stay = 250000
