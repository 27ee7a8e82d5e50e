-- The bytes that the words of a commit stand for.
use Rattle.std.specs.Prelude.{◌≡◌, ◌≢◌, ◌<◌, ◌+◌, ◌++◌, ◌∷◌, ◌&&◌, [], ℕ, All, Bool, List, length, nat_lt, replicate, true}
use Rattle.std.specs.Borrow.{Bor}
use Rattle.std.specs.Char.{is_ascii_graphic}
use Rattle.std.specs.List.{AllZip, list_all}
use Rattle.script_lines.specs.Numbers.{IsNumberBelow, spelled_number}

-- the most copies that a word stands for, the greatest length of an object with one level
abbrev pub max_copies : ℕ
max_copies = 338688

-- `COUNT:C` (58 is the colon) stands for 1 to 338,688 copies of the character C
abbrev pub AreCopies : List ℕ → List ℕ → Type 0
AreCopies copies bytes = (count : List ℕ) × (character : ℕ) × (copies ≡ count ++ 58 ∷ character ∷ [])
    × IsNumberBelow (max_copies + 1) count × (0 < spelled_number count) × (bytes ≡ replicate (spelled_number count) character)

-- printable ASCII without space, and at least one byte
abbrev pub is_printable : List ℕ → Bool
is_printable word = nat_lt 0 (length word) && list_all is_ascii_graphic word

-- a printable word stands for copies after `@` (64), else for its own bytes
abbrev pub IsContentOf : List ℕ → List ℕ → Type 0
IsContentOf [] bytes = ⊥
IsContentOf (first ∷ rest) bytes = (is_printable (first ∷ rest) ≡ true) × (first ≡ 64 → AreCopies rest bytes) × (first ≢ 64 → bytes ≡ first ∷ rest)

-- the bytes of each word, in order
abbrev pub AreContentsOf : List (Bor (List ℕ)) → List (List ℕ) → Type 0
AreContentsOf words contents = AllZip (λ word bytes. IsContentOf word.now bytes) words contents

-- a word that stands for bytes
abbrev pub IsContent : List ℕ → Type 0
IsContent word = (bytes : List ℕ) × IsContentOf word bytes

-- words that each stand for bytes
abbrev pub AreContents : List (Bor (List ℕ)) → Type 0
AreContents words = All (λ word. IsContent word.now) words
