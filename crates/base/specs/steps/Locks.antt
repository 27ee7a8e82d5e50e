-- Range locks: the grants of a run, and those that were released.
use Rattle.std.specs.Prelude.{ℕ, ◌≡◌, ◌==◌, ◌<◌, ◌↔◌, ◌&&◌, ◌++◌, ◌∷◌, [], Bool, true, false, not, List, filter, length, slice_get, Some, nat_lt, nat_le}
use Rattle.std.specs.List.{list_any}
use Rattle.base.specs.declared.range.Mode.{Mode}
use Rattle.base.specs.declared.range.Mode.TheVariants.{Reader, Writer}
use Rattle.base.specs.formats.Limits.{max_length}
use Rattle.base.specs.history.Plans.{NumberRange, overlaps, lies_in}

pub record Grant : Type 0 where
  pub id : ℕ
  pub owner : ℕ
  pub range : NumberRange
  pub mode : Mode

abbrev pub is_reader : Mode → Bool
is_reader Reader = true
is_reader Writer = false

-- whether a number is in a list
abbrev pub is_in : ℕ → List ℕ → Bool
is_in x xs = list_any (λ y. x == y) xs

-- the grants that are still held, in order of grant
abbrev pub held_locks : List Grant → List ℕ → List Grant
held_locks grants let_go = filter (λ (g : Grant). not (is_in g.id let_go)) grants

-- the grants are numbered from 0 on in their order, so no name is granted twice
abbrev pub AreNumberedGrants : List Grant → Type 0
AreNumberedGrants grants = (i : ℕ) (g : Grant) → slice_get grants i ≡ Some g → g.id ≡ i

-- of two locks whose ranges overlap, both are of readers
abbrev pub AreLocksSound : List Grant → Type 0
AreLocksSound locks = (i j : ℕ) (g h : Grant) → i < j → slice_get locks i ≡ Some g → slice_get locks j ≡ Some h
    → overlaps g.range h.range ≡ true → (g.mode ≡ Reader) × (h.mode ≡ Reader)

-- whether a range may be locked or read: low is below high, and high is no more than the greatest length
abbrev pub is_range_allowed : ℕ → ℕ → Bool
is_range_allowed low high = nat_lt low high && nat_le high max_length

-- whether a lock would overlap a held one, not both of readers
abbrev pub is_blocked : NumberRange → Mode → List Grant → Bool
is_blocked range mode locks = list_any (λ (g : Grant). overlaps g.range range && not (is_reader g.mode && is_reader mode)) locks

-- whether one lock of the owner covers a range
abbrev pub is_covered : ℕ → NumberRange → List Grant → Bool
is_covered owner range locks = list_any (λ (g : Grant). (g.owner == owner) && lies_in range g.range) locks

-- whether one writer lock of the owner does
abbrev pub is_covered_for_writing : ℕ → NumberRange → List Grant → Bool
is_covered_for_writing owner range locks = list_any (λ (g : Grant). not (is_reader g.mode) && ((g.owner == owner) && lies_in range g.range)) locks

-- what was released had been granted
abbrev pub AreGranted : List ℕ → List Grant → Type 0
AreGranted let_go grants = (i id : ℕ) → slice_get let_go i ≡ Some id → id < length grants

-- where the held locks are sound, one more is blocked exactly if granting it would leave them unsound
abbrev pub BusyIsUnsound : Type 0
BusyIsUnsound = (locks : List Grant) (g : Grant) → AreLocksSound locks → (is_blocked g.range g.mode locks ≡ true) ↔ (AreLocksSound (locks ++ g ∷ []) → ⊥)
