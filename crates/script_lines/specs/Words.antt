-- A line as words, and a word as parts.
use Rattle.std.specs.Prelude.{ℕ, ◌≡◌, ◌≤◌, ◌==◌, List, [], length, map, slice_index_or}
use Rattle.std.specs.Borrow.{Bor}
use Rattle.std.specs.List.{slice_split}

-- a `&[&str]`
abbrev pub Words : Type 0
Words = List (Bor (List ℕ))

-- the text of word i, which is empty past the end
abbrev pub word : Words → ℕ → List ℕ
word words i = (slice_index_or words i (record { ref_ptr = (0, 0); now = [] })).now

-- so many words, and the first is the name
abbrev pub HasForm : Words → List ℕ → ℕ → Type 0
HasForm words name count = (length words ≡ count) × (word words 0 ≡ name)

-- so many words at least, and the first is the name
abbrev pub BeginsWith : Words → List ℕ → ℕ → Type 0
BeginsWith words name count = (count ≤ length words) × (word words 0 ≡ name)

-- these are the parts of the text between the bytes `at`
abbrev pub ArePartsOf : ℕ → List ℕ → Words → Type 0
ArePartsOf at text parts = map (λ w. w.now) parts ≡ slice_split (λ b. b == at) text
