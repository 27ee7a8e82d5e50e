-- Each write that counts was handed at an earlier moment than the disk has now: whatever is called, and after a crash.
use Rattle.std.proofs.Common.{inl, inr, ℕ, suc, ◌≤◌, Bool, true, false, List, [], ◌∷◌, Result, Ok, Err, sym, subst, arith}
use Rattle.base.specs.declared.error.PoolError.{PoolError}
use Rattle.base.specs.disk.Disk.{Write, Disk, HandedSince, HasEarlierWrites, bytes_of, certain, certain_with, handed, moments, next, settled, written}
use Rattle.base.specs.disk.Calls.{Writes, Flushes}
use Rattle.base.proofs.disk.Fairness.{handed_settled}

-- what was handed since a later moment was since an earlier one
handed_before : (t later : ℕ) (ws : List Write) (place : ℕ) (content : List ℕ) → t ≤ later → HandedSince later ws place content → HandedSince t ws place content
handed_before t later [] place content before some = some
handed_before t later (w ∷ ws) place content before (inl here) = inl (omega (arith, before, here.0), here.1, here.2)
handed_before t later (w ∷ ws) place content before (inr there) = inr (handed_before t later ws place content before there)

-- a write has the moment of the disk before it
pub earlier_written : (place : ℕ) (content : List ℕ) (done : Bool) (disk : Disk) → HasEarlierWrites disk → HasEarlierWrites (written place content done disk)
earlier_written place content done disk earlier p c (inl here) = omega (arith, here.0)
earlier_written place content done disk earlier p c (inr there) = earlier p c (handed_before (moments disk) (suc (moments disk)) (handed disk.now) p c (omega arith) there)

-- a good flush and a crash hand nothing
pub earlier_settled : (image : List ℕ) (disk : Disk) → HasEarlierWrites disk → HasEarlierWrites (next (settled image disk.now) disk)
earlier_settled image disk earlier p c some =
    earlier p c (handed_before (moments disk) (suc (moments disk)) (handed disk.now) p c (omega arith) (handed_settled (suc (moments disk)) image disk.now p c some))

pub earlier_certain : (image : List ℕ) (disk : Disk) → HasEarlierWrites disk → HasEarlierWrites (certain image disk)
earlier_certain image disk earlier = by_cases disk.now.unflushed
  where
    by_cases : (ws : List Write) → HasEarlierWrites (certain_with image disk ws)
    by_cases [] = earlier
    by_cases (w ∷ ws) = earlier_settled image disk earlier

pub earlier_writes : (old new : Disk) (place : ℕ) (content : List ℕ) (r : Result (Unit {0}) PoolError) → Writes old place content r new → HasEarlierWrites old → HasEarlierWrites new
earlier_writes old new place content (Ok x) writes earlier = subst HasEarlierWrites (sym writes) (earlier_written place content true old earlier)
earlier_writes old new place content (Err e) (inl counted) earlier = subst HasEarlierWrites (sym counted) (earlier_written place content false old earlier)
earlier_writes old new place content (Err e) (inr same) earlier = subst HasEarlierWrites (sym same) earlier

pub earlier_flushes : (old new : Disk) (r : Result (Unit {0}) PoolError) → Flushes old r new → HasEarlierWrites old → HasEarlierWrites new
earlier_flushes old new (Ok x) flushes earlier = subst HasEarlierWrites (sym flushes) (earlier_certain (bytes_of old.now) old earlier)
earlier_flushes old new (Err e) flushes earlier = subst HasEarlierWrites (sym flushes) earlier
