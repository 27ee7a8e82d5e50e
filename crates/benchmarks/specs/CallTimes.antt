-- How long calls took, in microseconds, and how they are counted by slots.
use Rattle.std.specs.Prelude.{ℕ, ◌≡◌, ◌+◌, ◌<◌, ◌≤◌, List, [], ◌∷◌, count_by, length, max, nat_lt, sum, take}
use Rattle.benchmarks.specs.Slots.{IsNear, least_of}

-- how many calls took less than this time
abbrev pub calls_below : ℕ → List ℕ → ℕ
calls_below time times = count_by (λ t. nat_lt t time) times

-- the longest time, 0 if there is none
abbrev pub longest_in : List ℕ → ℕ
longest_in [] = 0
longest_in (time ∷ times) = max time (longest_in times)

-- If the calls are put in order of their times, the one of this rank, counted from 1, took at most this time, and at
-- least one from which it is near: fewer calls took less than that one.
pub record IsTimeAt (rank : ℕ) (times : List ℕ) (time : ℕ) : Type 0 where
  pub least : ℕ
  pub near : IsNear least time
  pub above : calls_below least times < rank
  pub within : rank ≤ calls_below (time + 1) times

-- the call of this rank is in this slot
pub record IsSlotAt (rank : ℕ) (counts : List ℕ) (slot : ℕ) : Type 0 where
  pub low : slot < length counts
  pub above : sum (take slot counts) < rank
  pub within : rank ≤ sum (take (slot + 1) counts)

-- The slots have so many calls each, and these are all.
pub record AreCounted (times counts : List ℕ) (calls longest : ℕ) : Type 0 where
  pub slots : length counts ≡ 976
  pub below : (slot : ℕ) → slot ≤ 976 → sum (take slot counts) ≡ calls_below (least_of slot) times
  pub all : sum counts ≡ calls
  pub count : calls ≡ length times
  pub most : longest ≡ longest_in times
