-- The calls of a create, one after the other.
use Rattle.std.proofs.Common.{◌≡◌, ℕ, ◌+◌, ◌-◌, ◌<◌, zero, suc, true, List, [], ◌∷◌, ◌++◌, map, replicate, Result, Ok, Err, refl, sym, ◌∙◌, ap, subst, arith}
use Rattle.std.specs.Prelude.{IfErr, IsErrAnd}
use Rattle.std.specs.List.{range_with_len}
use Rattle.std.proofs.lemmas.List.{append_assoc}
use Rattle.std.proofs.lemmas.List.FromFn.{map-range_with_len_more}
use Rattle.base.specs.disk.DiskCalls.{DiskCall, IsStoppedIn, MakesInOrder, Refuses, after_disk_call, after_disk_calls}
use Rattle.base.specs.disk.DiskCalls.DiskCall.{Put, Settle}
use Rattle.base.specs.declared.error.PoolError.{PoolError}
use Rattle.base.specs.declared.error.PoolError.TheVariants as refusal
use Rattle.base.specs.disk.Calls.{Flushes, Writes}
use Rattle.base.specs.disk.Disk.{Disk, written}
use Rattle.import_replay.specs.Cleared.{zeros}

after_both : (a b : List DiskCall) (disk : Disk) → after_disk_calls (a ++ b) disk ≡ after_disk_calls b (after_disk_calls a disk)
after_both [] b disk = refl
after_both (call ∷ a) b disk = after_both a b (after_disk_call call disk)

-- calls that are refused are so before others too
pub stopped_before : (a b : List DiskCall) (e : PoolError) (old new : Disk) → IsStoppedIn a e old new → IsStoppedIn (a ++ b) e old new
stopped_before a b e old new stopped = record {
  made = stopped.made;
  refused = stopped.refused;
  left_out = stopped.left_out ++ b;
  order = ap (λ (l : List DiskCall). l ++ b) stopped.order ∙ append_assoc stopped.made (stopped.refused ∷ stopped.left_out) b;
  refuses = stopped.refuses;
}

-- good calls, and others after them
pub made_then : (a b : List DiskCall) (r : Result (Unit {0}) PoolError) (old between new : Disk) → between ≡ after_disk_calls a old → MakesInOrder b r between new → MakesInOrder (a ++ b) r old new
made_then a b (Ok x) old between new first second =
    second ∙ ap (after_disk_calls b) first ∙ sym (after_both a b old)
made_then a b (Err e) old between new first second = record {
  made = a ++ second.made;
  refused = second.refused;
  left_out = second.left_out;
  order = ap (λ (l : List DiskCall). a ++ l) second.order ∙ sym (append_assoc a second.made (second.refused ∷ second.left_out));
  refuses = subst (λ (d : Disk). Refuses second.refused e d new) (ap (after_disk_calls second.made) first ∙ sym (after_both a second.made old)) second.refuses;
}

-- a refusal that is passed on
pub stops_with : (calls : List DiskCall) (r : Result (Unit {0}) PoolError) (x : PoolError) (old new : Disk) → IsErrAnd r (λ e. e ≡ x) → IsStoppedIn calls x old new → MakesInOrder calls r old new
stops_with calls (Ok a) x old new is stopped = absurd is
stops_with calls (Err e) x old new is stopped = subst (λ (d : PoolError). IsStoppedIn calls d old new) (sym is) stopped

-- calls with others after them, stage by stage
abbrev pub followed_by : List DiskCall → List (List DiskCall) → List DiskCall
followed_by calls [] = calls
followed_by calls (next ∷ rest) = followed_by (calls ++ next) rest

pub stops_early : (calls : List DiskCall) (rest : List (List DiskCall)) (r : Result (Unit {0}) PoolError) (x : PoolError) (old new : Disk) → IsErrAnd r (λ e. e ≡ x) → IsStoppedIn calls x old new
    → MakesInOrder (followed_by calls rest) r old new
stops_early calls [] r x old new is stopped = stops_with calls r x old new is stopped
stops_early calls (next ∷ rest) r x old new is stopped = stops_early (calls ++ next) rest r x old new is (stopped_before calls next x old new stopped)

-- a flush
pub flush_in_order : (r : Result (Unit {0}) PoolError) (old new : Disk) → IfErr r (λ e. e ≡ refusal.Flush) → Flushes old r new → MakesInOrder (Settle ∷ []) r old new
flush_in_order (Ok x) old new refused flushes = flushes
flush_in_order (Err e) old new refused flushes = record { made = []; refused = Settle; left_out = []; order = refl; refuses = (refused, flushes) }

-- a write that was done, and one that was refused
pub write_done : (old new : Disk) (place other : ℕ) (content bytes : List ℕ) → new ≡ written place content true old → place ≡ other → content ≡ bytes → new ≡ after_disk_call (Put other bytes) old
write_done old new place other content bytes is there same =
    is ∙ ap (λ (p : ℕ). written p content true old) there ∙ ap (λ (l : List ℕ). written other l true old) same

pub write_refused : (e : PoolError) (old new : Disk) (place other : ℕ) (content bytes : List ℕ) → e ≡ refusal.Write → Writes old place content (Err e) new → place ≡ other → content ≡ bytes
    → Refuses (Put other bytes) e old new
write_refused e old new place other content bytes refused writes there same = (
  refused,
  subst (λ (l : List ℕ). Writes old other l (Err e) new) same (subst (λ (p : ℕ). Writes old p content (Err e) new) there writes),
)

-- One call for each number from 0: the next of them, and one that is refused.
module _ (f : ℕ → DiskCall) where
  pub next_made : (n : ℕ) (start old new : Disk) → old ≡ after_disk_calls (map f (range_with_len 0 n)) start → new ≡ after_disk_call (f n) old → new ≡ after_disk_calls (map f (range_with_len 0 (n + 1))) start
  next_made n start old new before made =
      made
      ∙ ap (after_disk_call (f n)) before
      ∙ sym (after_both (map f (range_with_len 0 n)) (f n ∷ []) start)
      ∙ ap (λ (l : List DiskCall). after_disk_calls l start) (sym (map-range_with_len_more f 0 n n (omega arith)))

  parted : (n m at count last : ℕ) → count ≡ n + m + 1 → last ≡ at + n → map f (range_with_len at count) ≡ map f (range_with_len at n) ++ f last ∷ map f (range_with_len (last + 1) m)
  parted zero m at count last long there =
      let one : count ≡ suc m = omega (arith, long) in
      let first : at ≡ last = omega (arith, there) in
      ap (λ (k : ℕ). map f (range_with_len at k)) one ∙ ap (λ (k : ℕ). f k ∷ map f (range_with_len (k + 1) m)) first
  parted (suc n) m at count last long there =
      let more : count ≡ suc (n + m + 1) = omega (arith, long) in
      ap (λ (k : ℕ). map f (range_with_len at k)) more ∙ ap (λ (l : List DiskCall). f at ∷ l) (parted n m (at + 1) (n + m + 1) last refl (omega (arith, there)))

  pub next_refused : (n count : ℕ) (e : PoolError) (start old new : Disk) → n < count → old ≡ after_disk_calls (map f (range_with_len 0 n)) start → Refuses (f n) e old new
      → IsStoppedIn (map f (range_with_len 0 count)) e start new
  next_refused n count e start old new below before refuses = record {
    made = map f (range_with_len 0 n);
    refused = f n;
    left_out = map f (range_with_len (n + 1) (count - n - 1));
    order = parted n (count - n - 1) 0 count n (omega (arith, below)) (omega arith);
    refuses = subst (λ (d : Disk). Refuses (f n) e d new) before refuses;
  }

-- the bytes over a block
pub block_of_zeros : replicate 4096 0 ≡ zeros 4096
unfolding zeros
block_of_zeros = refl
