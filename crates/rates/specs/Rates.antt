-- How many of a count there were in a second.
use Rattle.std.specs.Prelude.{ℕ, ◌*◌, ◌-◌, ◌/◌, ◌^◌, max, min}

-- how many of a count there were in a second, if so many microseconds passed
abbrev pub rate_of : ℕ → ℕ → ℕ
rate_of count time = min (count * 1000000 / max time 1) (2 ^ 64 - 1)
