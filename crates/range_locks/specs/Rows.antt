-- The rows of a table of parts: they rise by offset, so each offset has its place among them.
use Rattle.std.specs.Prelude.{ℕ, zero, suc, ◌≡◌, ◌<◌, ◌≤◌, ◌==◌, cond, List, [], ◌∷◌, Option, None, Some}
use Rattle.range_locks.specs.declared.parts.Part.{Part}

-- parts by the offsets where they begin
abbrev pub PartRows : Type 0
PartRows = List (ℕ × Part)

-- the part that begins at an offset
abbrev pub part_in : PartRows → ℕ → Option Part
part_in [] k = None
part_in (e ∷ es) k = cond (e.0 == k) (Some e.1) (part_in es k)

-- rows of before become those of now: at one offset they have this part or none, elsewhere what they had
abbrev pub PutsAt : ℕ → Option Part → PartRows → PartRows → Type 0
PutsAt k part old new = (j : ℕ) → part_in new j ≡ cond (j == k) part (part_in old j)

-- the first part that begins at an offset or after it, if there is one
abbrev pub IsFirstFrom : ℕ → PartRows → Option (ℕ × Part) → Type 0
IsFirstFrom low rows None = (k : ℕ) → low ≤ k → part_in rows k ≡ None
IsFirstFrom low rows (Some r) = (low ≤ r.0) × (part_in rows r.0 ≡ Some r.1) × ((k : ℕ) → low ≤ k → k < r.0 → part_in rows k ≡ None)

-- the last part that begins at an offset or before it, if there is one
abbrev pub IsLastUpTo : ℕ → PartRows → Option (ℕ × Part) → Type 0
IsLastUpTo at rows None = (k : ℕ) → k ≤ at → part_in rows k ≡ None
IsLastUpTo at rows (Some r) = (r.0 ≤ at) × (part_in rows r.0 ≡ Some r.1) × ((k : ℕ) → r.0 < k → k ≤ at → part_in rows k ≡ None)

-- all rows begin after an offset
abbrev pub AreAfter : ℕ → PartRows → Type 0
AreAfter at [] = Unit {0}
AreAfter at (e ∷ es) = (at < e.0) × AreAfter at es

-- each row begins before those after it
abbrev pub Rise : PartRows → Type 0
Rise [] = Unit {0}
Rise (e ∷ es) = AreAfter e.0 es × Rise es

-- the row at a place begins at an offset, and those before it begin before
abbrev pub IsRowAt : ℕ → PartRows → ℕ → Type 0
IsRowAt at [] place = ⊥
IsRowAt at (e ∷ es) zero = e.0 ≡ at
IsRowAt at (e ∷ es) (suc place) = (e.0 < at) × IsRowAt at es place

-- no row begins at an offset: those before a place begin before it, and the others after it
abbrev pub IsGapAt : ℕ → PartRows → ℕ → Type 0
IsGapAt at [] place = place ≡ 0
IsGapAt at (e ∷ es) zero = at < e.0
IsGapAt at (e ∷ es) (suc place) = (e.0 < at) × IsGapAt at es place
