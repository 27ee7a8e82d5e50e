-- What a bench measured, by the times of its calls.
use Rattle.std.specs.Prelude.{ℕ, ◌≡◌, ◌*◌, ◌-◌, ◌/◌, ◌<◌, ◌≤◌, ◌^◌, List, length, min}
use Rattle.benchmarks.specs.CallTimes.{IsTimeAt, longest_in}
use Rattle.benchmarks.specs.declared.measured.Measured.{Measured}

-- calls of these times committed, each with so many bytes
pub record IsMeasured (bytes : ℕ) (times : List ℕ) (m : Measured) : Type 0 where
  pub calls : m.commits ≡ length times
  pub all : m.bytes ≡ min (m.commits * bytes) (2 ^ 64 - 1)
  pub half : 0 < m.commits → IsTimeAt (m.commits - m.commits / 2) times m.middle
  pub most : 0 < m.commits → IsTimeAt (m.commits - m.commits / 100) times m.percentile_99
  pub longest : m.longest ≡ longest_in times
  pub within : (m.middle ≤ m.longest) × (m.percentile_99 ≤ m.longest)

-- it was measured of calls of some times
pub record HasTimes (bytes : ℕ) (m : Measured) : Type 0 where
  pub times : List ℕ
  pub measured : IsMeasured bytes times m
