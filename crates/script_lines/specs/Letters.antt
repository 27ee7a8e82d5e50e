-- The letters of a script, and the words that stand for a call of a device.
use Rattle.std.specs.Prelude.{ℕ, Bool, true, ◌==◌, if◌then◌else◌, Option, Some, None, List, [], ◌∷◌, codes}
use Rattle.base.specs.declared.piece.Piece.{Piece}
use Rattle.base.specs.declared.piece.Piece.TheVariants.{Keep, Lose, Fill}
use Rattle.base.specs.declared.range.Mode.{Mode}
use Rattle.base.specs.declared.range.Mode.TheVariants.{Reader, Writer}
use Rattle.device_model.specs.declared.fault.Fault.{Fault}
use Rattle.device_model.specs.declared.fault.Fault.TheVariants as fault

-- what a letter of `crash` leaves of a write: k keeps it, l loses it, t fills its range with the byte 0xAA
abbrev pub piece_of : ℕ → Option Piece
piece_of letter = if letter == 107 then Some Keep else (if letter == 108 then Some Lose else (if letter == 116 then Some (Fill 170) else None))

-- the lock of the one letter r or w
abbrev pub mode_of : List ℕ → Option Mode
mode_of [] = None
mode_of (letter ∷ []) = if letter == 114 then Some Reader else (if letter == 119 then Some Writer else None)
mode_of (letter ∷ next ∷ rest) = None

-- the word of a call of a device that is to fail
abbrev pub call_name : Fault → List ℕ
call_name fault.Read = codes "read"
call_name fault.Write = codes "write"
call_name fault.Flush = codes "flush"

-- an empty line, and one that begins with `#` (35), print nothing
abbrev pub is_silent : List ℕ → Bool
is_silent [] = true
is_silent (first ∷ rest) = first == 35
