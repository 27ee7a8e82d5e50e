-- Parts that a run of calls spares.
use Rattle.std.proofs.Common.{◌≡◌, ℕ, List}
use Rattle.base.specs.formats.Fields.{part}
use Rattle.base.specs.disk.Disk.{Moment, Disk, bytes_of, EachMoment, CrashLeaves, LeavesOnly, ChangesOnly, SameOutside, IsInRange}
use Rattle.base.proofs.disk.Put.{part_same}
use Rattle.base.proofs.disk.Moments.{weaker}
use Rattle.base.proofs.disk.Regions.{inside_leaves}

-- a part with no byte in the region
abbrev pub IsSpared : (ℕ → Type 0) → ℕ → ℕ → Type 0
IsSpared Region place n = (i : ℕ) → IsInRange place n i → Region i → ⊥

module _ (Region : ℕ → Type 0) (base : List ℕ) (place n : ℕ) (spared : IsSpared Region place n) where
  -- it is the base's in an image that differs in the region alone
  pub part_outside : (image : List ℕ) → SameOutside Region base image → part image place n ≡ part base place n
  part_outside image same = part_same image base place n same.size (λ i from to. same.others i (spared i (from, to)))

  -- in what a read gives
  pub part_read : (m : Moment) → ChangesOnly Region base m → part (bytes_of m) place n ≡ part base place n
  part_read m inside = part_same (bytes_of m) base place n inside.size (λ i from to. inside.others i (spared i (from, to)))

  -- and in what a crash leaves, at each moment of the run
  pub part_left : (m : Moment) → ChangesOnly Region base m → CrashLeaves (λ image. part image place n ≡ part base place n) m
  part_left m inside image left = part_outside image (inside_leaves Region base m image inside left)

  pub leaves_part : (old new : Disk) → EachMoment (ChangesOnly Region base) old new → LeavesOnly old new (λ image. part image place n ≡ part base place n)
  leaves_part old new run = weaker (ChangesOnly Region base) (CrashLeaves (λ image. part image place n ≡ part base place n)) old new part_left run
