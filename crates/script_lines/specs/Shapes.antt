-- The shapes that the words of a begin stand for.
use Rattle.std.specs.Prelude.{ℕ, ◌≡◌, ◌<◌, ◌^◌, ◌⊎◌, IsOk, List, Result, Ok, Err, codes, length}
use Rattle.std.specs.List.{AllZip}
use Rattle.std.specs.Result.{OkIff}
use Rattle.base.specs.declared.operation.Shape.{Shape}
use Rattle.base.specs.declared.operation.Shape.TheVariants.{Create, Remove, Write, SetLength, SetName}
use Rattle.script_lines.specs.Numbers.{IsNumberBelow, spelled_number}
use Rattle.script_lines.specs.Words.{ArePartsOf, HasForm, Words, word}
use Rattle.script_lines.specs.declared.command.LineError.{LineError}
use Rattle.script_lines.specs.declared.command.LineError.TheVariants.{NoMemory}

-- the words that are a shape: `c:OBJECT`, `d:OBJECT`, `w:OBJECT:OFFSET:LENGTH`, `l:OBJECT:LENGTH` and `n:LENGTH`
abbrev pub IsShapeForm : Words → Type 0
IsShapeForm parts = HasForm parts (codes "c") 2 ⊎ (HasForm parts (codes "d") 2 ⊎ (HasForm parts (codes "w") 4
    ⊎ (HasForm parts (codes "l") 3 ⊎ HasForm parts (codes "n") 2)))

-- what the parts of a word are read as
pub record ReadsShape (parts : Words) (r : Result Shape LineError) : Type 0 where
  pub create : HasForm parts (codes "c") 2 → OkIff r (IsNumberBelow (2 ^ 32) (word parts 1)) (Create (record { 0 = spelled_number (word parts 1) }))
  pub remove : HasForm parts (codes "d") 2 → OkIff r (IsNumberBelow (2 ^ 32) (word parts 1)) (Remove (record { 0 = spelled_number (word parts 1) }))
  pub write : HasForm parts (codes "w") 4 → OkIff r
      (IsNumberBelow (2 ^ 32) (word parts 1) × IsNumberBelow (2 ^ 64) (word parts 2) × IsNumberBelow (2 ^ 64) (word parts 3))
      (Write (record { 0 = spelled_number (word parts 1) }) (spelled_number (word parts 2)) (spelled_number (word parts 3)))
  pub set_length : HasForm parts (codes "l") 3 → OkIff r
      (IsNumberBelow (2 ^ 32) (word parts 1) × IsNumberBelow (2 ^ 64) (word parts 2))
      (SetLength (record { 0 = spelled_number (word parts 1) }) (spelled_number (word parts 2)))
  pub set_name : HasForm parts (codes "n") 2 → OkIff r (IsNumberBelow (2 ^ 64) (word parts 1)) (SetName (spelled_number (word parts 1)))

-- a word's parts between colons (58) are read as this shape
pub record IsShapeOf (text : List ℕ) (shape : Shape) : Type 0 where
  pub parts : Words
  pub cut : ArePartsOf 58 text parts
  pub form : IsShapeForm parts
  pub read : ReadsShape parts (Ok shape)

-- the shape of each word, in order
abbrev pub AreShapesOf : Words → List Shape → Type 0
AreShapesOf words shapes = AllZip (λ w shape. IsShapeOf w.now shape) words shapes

-- a word is read by its parts between colons, or there is no memory for them
abbrev pub ReadsShapeWord : List ℕ → Result Shape LineError → Type 0
ReadsShapeWord text r = (r ≡ Err NoMemory) ⊎ ((parts : Words) × ArePartsOf 58 text parts × ReadsShape parts r × (IsOk r → IsShapeForm parts))

-- words are refused as shapes for want of memory, or as one of them is
abbrev pub IsShapesRefusal : Words → LineError → Type 0
IsShapesRefusal words e = (e ≡ NoMemory) ⊎ ((i : ℕ) × (i < length words) × ReadsShapeWord (word words i) (Err e))
