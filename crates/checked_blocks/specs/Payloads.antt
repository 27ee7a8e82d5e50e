-- What an opened block holds.
use Rattle.std.specs.Prelude.{ℕ, List}

-- the group in which a block was written, and its payload
pub record Opened : Type 0 where
  pub group : ℕ
  pub bytes : List ℕ
