-- Bytes that are appended if there is room for them.
use Rattle.std.specs.Prelude.{◌≡◌, ◌+◌, ◌≤◌, ◌++◌, ℕ, List, length, vec_len, vec_capacity}
use Rattle.std.specs.Global.{Vec}

-- there is room for so many bytes more
abbrev pub HasRoomFor : Vec ℕ → ℕ → Type 0
HasRoomFor out count = vec_len out + count ≤ vec_capacity out

-- the new bytes are the old ones and these, and no room is lost
pub record AppendsBytes (old new : Vec ℕ) (bytes : List ℕ) : Type 0 where
  pub items : new.items ≡ old.items ++ bytes
  pub len : vec_len new ≡ vec_len old + length bytes
  pub room : vec_capacity old ≤ vec_capacity new
