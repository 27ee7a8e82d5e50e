-- Bytes by their values.
use Rattle.std.specs.Prelude.{ℕ, ◌≡◌, true, List, nat_lt}
use Rattle.std.specs.List.{list_all}

-- these are bytes
abbrev pub AreBytes : List ℕ → Type 0
AreBytes content = list_all (λ b. nat_lt b 256) content ≡ true
