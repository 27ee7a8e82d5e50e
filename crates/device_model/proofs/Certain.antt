-- Bytes that each crash leaves: how they become certain, and that they stay so until they are written.
use Rattle.std.proofs.Common.{◌≡◌, inl, inr, ⊎_elim, ℕ, ◌+◌, ◌≤◌, Bool, true, false, List, [], ◌∷◌, length, Result, Ok, refl, ◌∙◌, ap, subst, arith}
use Rattle.base.specs.declared.error.PoolError.{PoolError}
use Rattle.base.specs.formats.Fields.{part}
use Rattle.base.specs.disk.Disk.{Write, Moment, Disk, moments, bytes_of, disk_size, IsTouched, IsInRange, MayLeave, wrote, settled, certain, certain_with, written, EachMoment, CrashLeaves, LeavesOnly}
use Rattle.base.specs.disk.Calls.{Writes, Flushes}
use Rattle.base.proofs.disk.Put.{Apart, part-put_same, part-put_apart}
use Rattle.base.proofs.disk.Moments.{weaker, part_stands, each_write, each_flush, bytes_may_be_left}
use Rattle.base.proofs.disk.Regions.{flushed_clean}
use Rattle.device_model.specs.Certain.{IsCertain}

-- what a good write wrote, a read gives
pub written_reads : (place : ℕ) (content : List ℕ) (disk : Disk) → place + length content ≤ disk_size disk → part (bytes_of (written place content true disk).now) place (length content) ≡ content
written_reads place content disk fits = part-put_same place content (bytes_of disk.now) fits

module _ (place : ℕ) (content : List ℕ) where
  abbrev Stands : Moment → Type 0
  Stands = IsCertain place content

  -- where nothing is unflushed, what a read gives is certain
  pub clean_certain : (m : Moment) → m.unflushed ≡ [] → part (bytes_of m) place (length content) ≡ content → Stands m
  clean_certain m none reads = record { reads = reads; untouched = λ i here touched. subst (λ (ws : List Write). IsTouched ws i) none touched }

  -- a good flush makes certain what a read gives
  pub flushed_certain : (old new : Disk) → Flushes old (Ok tt) new → part (bytes_of old.now) place (length content) ≡ content → Stands new.now
  flushed_certain old new flushes reads =
      let clean = flushed_clean old new flushes in
      clean_certain new.now clean.0 (ap (λ (l : List ℕ). part l place (length content)) clean.1 ∙ reads)

  -- a good write and a good flush right after it
  pub stored_certain : (old mid new : Disk) → Writes old place content (Ok tt) mid → Flushes mid (Ok tt) new → place + length content ≤ disk_size old → Stands new.now
  stored_certain old mid new writes flushes fits =
      flushed_certain mid new flushes (ap (λ (d : Disk). part (bytes_of d.now) place (length content)) writes ∙ written_reads place content old fits)

  -- each crash leaves them
  pub certain_leaves : (m : Moment) → Stands m → CrashLeaves (λ image. part image place (length content) ≡ content) m
  certain_leaves m stands image left = part_stands m image place (length content) left (λ i from to. stands.untouched i (from, to)) ∙ stands.reads

  -- a write elsewhere lets them stand
  pub certain_wrote : (t other : ℕ) (more : List ℕ) (done : Bool) (m : Moment) → Stands m → other + length more ≤ length (bytes_of m) → Apart other (length more) place (length content) → Stands (wrote t other more done m)
  certain_wrote t other more done m stands fits apart = record {
    reads = by_done done;
    untouched = λ i here touched. ⊎_elim (λ there. clash i here there apart) (stands.untouched i here) touched;
  }
    where
      by_done : (done : Bool) → part (bytes_of (wrote t other more done m)) place (length content) ≡ content
      by_done true = part-put_apart other more (bytes_of m) place (length content) fits apart ∙ stands.reads
      by_done false = stands.reads

      clash : (i : ℕ) → IsInRange place (length content) i → IsInRange other (length more) i → Apart other (length more) place (length content) → ⊥
      clash i here there (inl before) = absurd (omega (arith, here.0, there.1, before))
      clash i here there (inr behind) = absurd (omega (arith, here.1, there.0, behind))

  -- a crash, or a good flush, too
  pub certain_settled : (m : Moment) (image : List ℕ) → Stands m → MayLeave m image → Stands (settled image m)
  certain_settled m image stands left = clean_certain (settled image m) refl (certain_leaves m stands image left)

  pub certain_crash : (disk : Disk) (image : List ℕ) → Stands disk.now → MayLeave disk.now image → Stands (certain image disk).now
  certain_crash disk image stands left = by_cases disk.now.unflushed
    where
      by_cases : (ws : List Write) → Stands (certain_with image disk ws).now
      by_cases [] = stands
      by_cases (w ∷ ws) = certain_settled disk.now image stands left

  -- so they stand at each moment of a run of calls that write elsewhere, one call more at a time
  pub each_certain_write : (first old new : Disk) (other : ℕ) (more : List ℕ) (r : Result (Unit {0}) PoolError) → EachMoment Stands first old → Writes old other more r new
      → other + length more ≤ disk_size old → Apart other (length more) place (length content) → EachMoment Stands first new
  each_certain_write first old new other more r so_far writes fits apart =
      each_write Stands first old new other more r so_far writes (λ done stands. certain_wrote (moments old) other more done old.now stands fits apart)

  pub each_certain_flush : (first old new : Disk) (r : Result (Unit {0}) PoolError) → EachMoment Stands first old → Flushes old r new → EachMoment Stands first new
  each_certain_flush first old new r so_far flushes = each_flush Stands first old new r so_far flushes (λ stands. certain_settled old.now (bytes_of old.now) stands (bytes_may_be_left old.now))

  -- and each crash since leaves them
  pub each_certain_leaves : (old new : Disk) → EachMoment Stands old new → LeavesOnly old new (λ image. part image place (length content) ≡ content)
  each_certain_leaves old new run = weaker Stands (CrashLeaves (λ image. part image place (length content) ≡ content)) old new certain_leaves run
