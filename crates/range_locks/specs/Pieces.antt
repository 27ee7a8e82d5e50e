-- The pieces of a number: the parts between neighbouring ends of its held locks that some lock covers.
use Rattle.std.specs.Prelude.{ℕ, ◌==◌, ◌&&◌, Bool, not, List, [], ◌∷◌, nat_lt, nat_le, if◌then◌else◌}
use Rattle.std.specs.List.{count_by, list_any}
use Rattle.base.specs.steps.Locks.{Grant, is_reader}
use Rattle.range_locks.specs.declared.held.HeldPiece.{HeldPiece}

-- whether a lock covers an offset of a number
abbrev pub covers_byte : ℕ → ℕ → Grant → Bool
covers_byte n k g = (n == g.range.number) && (nat_le g.range.low k && nat_lt k g.range.high)

-- an offset among rising ones, once
abbrev pub with_offset : ℕ → List ℕ → List ℕ
with_offset x [] = x ∷ []
with_offset x (y ∷ ys) = if nat_lt x y then x ∷ y ∷ ys else if x == y then y ∷ ys else y ∷ with_offset x ys

-- the ends of the locks of a number, rising, each once
abbrev pub ends_of : ℕ → List Grant → List ℕ
ends_of n [] = []
ends_of n (g ∷ locks) = if n == g.range.number then with_offset g.range.low (with_offset g.range.high (ends_of n locks)) else ends_of n locks

-- the piece from one end to the next, by the locks that cover where it begins
abbrev pub piece_between : ℕ → List Grant → ℕ → ℕ → HeldPiece
piece_between n locks low high = record {
  low = low;
  high = high;
  writer = list_any (λ (g : Grant). not (is_reader g.mode) && covers_byte n low g) locks;
  readers = count_by (λ (g : Grant). is_reader g.mode && covers_byte n low g) locks;
}

-- the pieces from an end on, by the ends after it
abbrev pub pieces_from : ℕ → List Grant → ℕ → List ℕ → List HeldPiece
pieces_from n locks low [] = []
pieces_from n locks low (high ∷ ends) =
    if list_any (covers_byte n low) locks then piece_between n locks low high ∷ pieces_from n locks high ends else pieces_from n locks high ends

abbrev pub pieces_along : ℕ → List Grant → List ℕ → List HeldPiece
pieces_along n locks [] = []
pieces_along n locks (low ∷ ends) = pieces_from n locks low ends

-- the pieces of a number, rising
abbrev pub pieces_of : ℕ → List Grant → List HeldPiece
pieces_of n locks = pieces_along n locks (ends_of n locks)
