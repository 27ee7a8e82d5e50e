-- A number that was halved again and again is what a division by a power of two leaves.
use Rattle.std.proofs.Common.{◌≡◌, ℕ, ◌+◌, ◌-◌, ◌*◌, ◌/◌, ◌^◌, ◌≤◌, ◌<◌, ◌⊎◌, inl, inr, arith}
use Rattle.std.proofs.lemmas.Nat.{mul-le, pow-add}
use Rattle.std.proofs.Math.Nat.{pow-le-pow_right}
use Rattle.benchmarks.specs.Slots.{IsNear, doublings_of, least_of}

-- so a time lies between the multiples that a number of halvings left of it
abbrev pub IsHalved : ℕ → ℕ → ℕ → Type 0
IsHalved time rest halvings = (rest * 2 ^ halvings ≤ time) × (time < (rest + 1) * 2 ^ halvings)

half_within : (r p time : ℕ) → r * p ≤ time → r / 2 * (2 * p) ≤ time
half_within r p time low = omega (arith, low, mul-le (r / 2 * 2) p r p (omega arith) (omega arith))

half_above : (r p time : ℕ) → time < (r + 1) * p → time < (r / 2 + 1) * (2 * p)
half_above r p time high = omega (arith, high, mul-le (r + 1) p ((r / 2 + 1) * 2) p (omega arith) (omega arith))

power_more : (k : ℕ) → 2 ^ (k + 1) ≡ 2 * 2 ^ k
power_more k = omega (arith, pow-add 2 k 1)

pub halved_more : (time rest halvings : ℕ) → IsHalved time rest halvings → IsHalved time (rest / 2) (halvings + 1)
halved_more time rest halvings h = rw (power_more halvings) (half_within rest (2 ^ halvings) time h.0, half_above rest (2 ^ halvings) time h.1)

power_within : (i j : ℕ) → i ≤ j → 2 ^ i ≤ 2 ^ j
power_within i j h = pow-le-pow_right (omega arith) h

-- a slot whose times are doubled has 16 of its least ones at least
high_of : (slot : ℕ) → (doublings_of slot ≡ 0) ⊎ (16 ≤ slot - 16 * doublings_of slot)
high_of slot = grind arith

near_of : (d rest longest : ℕ) → (d ≡ 0) ⊎ (16 ≤ rest) → longest + 1 ≡ (rest + 1) * 2 ^ d → 16 * (longest - rest * 2 ^ d) ≤ rest * 2 ^ d
near_of d rest longest (inl none) is = let e : longest + 1 ≡ (rest + 1) * 1 = rw none at is in rw none (omega (arith, e))
near_of d rest longest (inr high) is = omega (arith, is, mul-le 16 (2 ^ d) rest (2 ^ d) high (omega arith))

-- a time of a slot that is doubled less often than its last one still fits 64 bits when it is doubled
pub doubled_fits : (slot d longest k : ℕ) → d ≡ doublings_of slot → slot < 976 → k < d → longest + 1 ≡ (slot - 16 * d + 1) * 2 ^ k → 2 * longest + 1 < 2 ^ 64
doubled_fits slot d longest k are low more is =
    let small : slot - 16 * d + 1 ≤ 32 = omega (arith, are) in
    let power : 2 ^ k ≤ 2 ^ 58 = power_within k 58 (omega (arith, are, low, more)) in
    omega (arith, is, mul-le (slot - 16 * d + 1) (2 ^ k) 32 (2 ^ 58) small power)

-- the longest time of a slot is above its least one by at most a sixteenth
pub longest_near : (slot d longest k : ℕ) → d ≡ doublings_of slot → k ≡ d → longest + 1 ≡ (slot - 16 * d + 1) * 2 ^ k → IsNear (least_of slot) longest
longest_near slot d longest k are all is =
    near_of (doublings_of slot) (slot - 16 * doublings_of slot) longest (high_of slot) (rw are at (rw all at is))
