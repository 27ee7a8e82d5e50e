-- Runs of calls whose writes all lie in one region.
use Rattle.std.proofs.Common.{◌≡◌, ⊎_elim, ℕ, ◌+◌, ◌≤◌, Bool, true, false, List, [], ◌∷◌, length, get_or, Result, Ok, refl, sym, ◌∙◌, ap, subst, arith}
use Rattle.base.specs.declared.error.PoolError.{PoolError}
use Rattle.base.specs.disk.Disk.{Write, Moment, Disk, moments, bytes_of, IsTouched, MayLeave, wrote, settled, certain_with, EachMoment, ChangesOnly, SameOutside, IsInRange}
use Rattle.base.specs.disk.Calls.{Writes, Flushes}
use Rattle.base.proofs.disk.Put.{length-put, get_or-put_other, outside_range}
use Rattle.base.proofs.disk.Moments.{starts, each_write, each_flush}

module _ (Region : ℕ → Type 0) (base : List ℕ) where
  abbrev Inside : Moment → Type 0
  Inside = ChangesOnly Region base

  -- a write in the region, whether it is done or not
  pub inside_wrote : (t place : ℕ) (content : List ℕ) (done : Bool) (m : Moment) → Inside m → place + length content ≤ length base → ((i : ℕ) → IsInRange place (length content) i → Region i) → Inside (wrote t place content done m)
  inside_wrote t place content true m so_far fits within = record {
    size = length-put place content (bytes_of m) (omega (arith, fits, so_far.size)) ∙ so_far.size;
    touched = λ i touched. ⊎_elim (within i) (so_far.touched i) touched;
    others = λ i out. get_or-put_other place content (bytes_of m) i (omega (arith, fits, so_far.size)) (outside_range place (length content) i (λ here. out (within i here))) ∙ so_far.others i out;
  }
  inside_wrote t place content false m so_far fits within = record {
    size = so_far.size;
    touched = λ i touched. ⊎_elim (within i) (so_far.touched i) touched;
    others = so_far.others;
  }

  inside_settled : (m : Moment) → Inside m → Inside (settled (bytes_of m) m)
  inside_settled m so_far = record { size = so_far.size; touched = λ i touched. absurd touched; others = so_far.others }

  -- one write more
  pub inside_write : (old disk new : Disk) (place : ℕ) (content : List ℕ) (r : Result (Unit {0}) PoolError) → EachMoment Inside old disk → Writes disk place content r new
      → place + length content ≤ length base → ((i : ℕ) → IsInRange place (length content) i → Region i) → EachMoment Inside old new
  inside_write old disk new place content r so_far writes fits within =
      each_write Inside old disk new place content r so_far writes (λ done inside. inside_wrote (moments disk) place content done disk.now inside fits within)

  -- one flush more
  pub inside_flush : (old disk new : Disk) (r : Result (Unit {0}) PoolError) → EachMoment Inside old disk → Flushes disk r new → EachMoment Inside old new
  inside_flush old disk new r so_far flushes = each_flush Inside old disk new r so_far flushes (inside_settled disk.now)

  -- where nothing is unflushed, before the first write
  pub inside_starts : (disk : Disk) → disk.now.unflushed ≡ [] → bytes_of disk.now ≡ base → EachMoment Inside disk disk
  inside_starts disk none same = starts Inside disk (record {
    size = ap (λ (l : List ℕ). length l) same;
    touched = λ i touched. absurd (subst (λ (ws : List Write). IsTouched ws i) none touched);
    others = λ i out. ap (λ (l : List ℕ). get_or l i 0) same;
  })

  -- what a crash leaves then
  pub inside_leaves : (m : Moment) (image : List ℕ) → Inside m → MayLeave m image → SameOutside Region base image
  inside_leaves m image inside left = record {
    size = left.size ∙ inside.size;
    others = λ i out. left.others i (λ touched. out (inside.touched i touched)) ∙ inside.others i out;
  }

-- after a flush that answers Ok nothing is unflushed, and a read gives what it gave
pub flushed_clean : (disk new : Disk) → Flushes disk (Ok tt) new → (new.now.unflushed ≡ []) × (bytes_of new.now ≡ bytes_of disk.now)
flushed_clean disk new flushes = subst (λ (d : Disk). (d.now.unflushed ≡ []) × (bytes_of d.now ≡ bytes_of disk.now)) (sym flushes) (by_cases disk.now.unflushed refl)
  where
    by_cases : (ws : List Write) → disk.now.unflushed ≡ ws → ((certain_with (bytes_of disk.now) disk ws).now.unflushed ≡ []) × (bytes_of (certain_with (bytes_of disk.now) disk ws).now ≡ bytes_of disk.now)
    by_cases [] is = (is, refl)
    by_cases (w ∷ ws) is = (refl, refl)
