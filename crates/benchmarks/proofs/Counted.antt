-- Calls that are noted or added stay counted by their slots.
use Rattle.std.proofs.Common.{◌≡◌, ◌∙◌, ◌≤◌, ◌<◌, ◌+◌, ◌-◌, ◌*◌, ◌^◌, ◌⊎◌, ℕ, zero, suc, cond, List, [], ◌∷◌, ◌++◌, arith, drop, le_refl, le_trans, ap, inl, inr, length, refl, sym, take, get_or}
use Rattle.std.specs.Prelude.{max, min, nat_lt, replicate, slice_set, sum}
use Rattle.std.proofs.lemmas.Bool.{lt-ltb, le-ltb}
use Rattle.std.proofs.lemmas.List.{append-nil, drop-set-lt, drop_all, length-append, length-replicate, length-set, take-replicate, take-set-le, take_all}
use Rattle.std.proofs.lemmas.List.Folds.{sum_by-replicate}
use Rattle.std.proofs.lemmas.List.Sums.{sum_by-append, sum_by-cons, sum_by-set, sum_by-take-drop, sum_by_more}
use Rattle.std.proofs.lemmas.Nat.{mul-le, pow-add}
use Rattle.benchmarks.specs.CallTimes.{AreCounted, IsSlotAt, IsTimeAt, calls_below, longest_in}
use Rattle.benchmarks.specs.Slots.{IsInSlot, IsNear, doublings_of, end_of, least_of}
use Rattle.benchmarks.specs.Sums.{AreSums}

-- the slot after this one is doubled as often, or once more after the 31st of a doubling
next_doublings : (slot : ℕ) → (doublings_of (slot + 1) ≡ doublings_of slot) ⊎ ((doublings_of (slot + 1) ≡ doublings_of slot + 1) × (slot ≡ 16 * doublings_of slot + 31))
next_doublings slot = grind arith

same_doublings : (slot d : ℕ) → 16 * d ≤ slot → (slot + 1 - 16 * d) * 2 ^ d ≡ (slot - 16 * d + 1) * 2 ^ d
same_doublings slot d low = ap (λ n. n * 2 ^ d) (omega (arith, low))

once_more : (slot d : ℕ) → slot ≡ 16 * d + 31 → (slot + 1 - 16 * (d + 1)) * 2 ^ (d + 1) ≡ (slot - 16 * d + 1) * 2 ^ d
once_more slot d is =
    let left : slot + 1 - 16 * (d + 1) ≡ 16 = omega (arith, is) in
    let right : slot - 16 * d + 1 ≡ 32 = omega (arith, is) in
    rw left (rw right (omega (arith, pow-add 2 d 1)))

next_of : (slot : ℕ) → (doublings_of (slot + 1) ≡ doublings_of slot) ⊎ ((doublings_of (slot + 1) ≡ doublings_of slot + 1) × (slot ≡ 16 * doublings_of slot + 31)) → least_of (slot + 1) ≡ end_of slot
next_of slot (inl same) = ap (λ d. (slot + 1 - 16 * d) * 2 ^ d) same ∙ same_doublings slot (doublings_of slot) (omega arith)
next_of slot (inr more) = ap (λ d. (slot + 1 - 16 * d) * 2 ^ d) more.0 ∙ once_more slot (doublings_of slot) more.1

-- a slot begins where the one before it ends
pub least-next : (slot : ℕ) → least_of (slot + 1) ≡ end_of slot
least-next slot = next_of slot (next_doublings slot)

least_within : (slot : ℕ) → least_of slot ≤ end_of slot
least_within slot = mul-le (slot - 16 * doublings_of slot) (2 ^ doublings_of slot) (slot - 16 * doublings_of slot + 1) (2 ^ doublings_of slot) (omega arith) (omega arith)

least_more : (k slot : ℕ) → least_of slot ≤ least_of (k + slot)
least_more zero slot =
    let is : 0 + slot ≡ slot = omega arith in
    rw is (le_refl (least_of slot))
least_more (suc k) slot =
    let is : suc k + slot ≡ (k + slot) + 1 = omega arith in
    let next : least_of (suc k + slot) ≡ end_of (k + slot) = ap (λ n. least_of n) is ∙ least-next (k + slot) in
    let so_far = least_more k slot in
    let step = least_within (k + slot) in
    rw next (le_trans so_far step)

-- later slots begin later
least-le : (slot next : ℕ) → slot ≤ next → least_of slot ≤ least_of next
least-le slot next h =
    let is : (next - slot) + slot ≡ next = omega (arith, h) in
    rw is at (least_more (next - slot) slot)

-- what a time adds to those below the start of a slot: it is there if its own slot is an earlier one
time_before : (time slot other : ℕ) → IsInSlot time slot → slot < other → time < least_of other
time_before time slot other h before = omega (arith, h.1, least-next slot, least-le (slot + 1) other (omega (arith, before)))

time_after : (time slot other : ℕ) → IsInSlot time slot → other ≤ slot → least_of other ≤ time
time_after time slot other h after = omega (arith, h.0, least-le other slot after)

-- one more in a slot is one more of the slots up to each later one
sum_set_before : (counts : List ℕ) (slot other n : ℕ) → slot < length counts → slot < other → sum (take other (slice_set counts slot (get_or counts slot 0 + n))) ≡ sum (take other counts) + n
sum_set_before counts slot other n low before =
    let new = slice_set counts slot (get_or counts slot 0 + n) in
    let whole = sum_by-set (λ x. x) counts slot (get_or counts slot 0 + n) 0 low in
    let cut = sum_by-take-drop (λ x. x) counts other in
    let new_cut = sum_by-take-drop (λ x. x) new other in
    let rest = ap (λ l. sum l) (drop-set-lt other counts slot (get_or counts slot 0 + n) before) in
    omega (arith, whole, cut, new_cut, rest)

sum_set_after : (counts : List ℕ) (slot other n : ℕ) → other ≤ slot → sum (take other (slice_set counts slot n)) ≡ sum (take other counts)
sum_set_after counts slot other n after = ap (λ l. sum l) (take-set-le other counts slot n after)

either : (m n : ℕ) → (m < n) ⊎ (n ≤ m)
either m n = grind arith

call_below : (t time : ℕ) (times : List ℕ) → t < time → calls_below time (t ∷ times) ≡ calls_below time times + 1
call_below t time times low =
    let more = sum_by-cons (λ x. cond (nat_lt x time) 1 0) t times in
    let one = ap {B = ℕ} (λ b. cond b 1 0) (lt-ltb t time low) in
    omega (arith, more, one)

call_above : (t time : ℕ) (times : List ℕ) → time ≤ t → calls_below time (t ∷ times) ≡ calls_below time times
call_above t time times high =
    let more = sum_by-cons (λ x. cond (nat_lt x time) 1 0) t times in
    let none = ap {B = ℕ} (λ b. cond b 1 0) (le-ltb t time high) in
    omega (arith, more, none)

noted_below : (time slot other : ℕ) (times counts : List ℕ) → IsInSlot time slot → slot < length counts → sum (take other counts) ≡ calls_below (least_of other) times → (slot < other) ⊎ (other ≤ slot)
    → sum (take other (slice_set counts slot (get_or counts slot 0 + 1))) ≡ calls_below (least_of other) (time ∷ times)
noted_below time slot other times counts has low old (inl before) =
    sum_set_before counts slot other 1 low before ∙ ap (λ n. n + 1) old ∙ sym (call_below time (least_of other) times (time_before time slot other has before))
noted_below time slot other times counts has low old (inr after) =
    sum_set_after counts slot other (get_or counts slot 0 + 1) after ∙ old ∙ sym (call_above time (least_of other) times (time_after time slot other has after))

-- a call that is noted in its slot is counted
pub counted_noted : (time slot calls longest : ℕ) (times counts : List ℕ) → IsInSlot time slot → slot < 976 → AreCounted times counts calls longest
    → AreCounted (time ∷ times) (slice_set counts slot (get_or counts slot 0 + 1)) (calls + 1) (max longest time)
counted_noted time slot calls longest times counts has low old =
    let within : slot < length counts = omega (arith, low, old.slots) in
    let new = slice_set counts slot (get_or counts slot 0 + 1) in
    let whole = sum_by-set (λ x. x) counts slot (get_or counts slot 0 + 1) 0 within in
    record {
      slots = length-set counts slot (get_or counts slot 0 + 1) ∙ old.slots;
      below = λ other few. noted_below time slot other times counts has within (old.below other few) (either slot other);
      all = omega (arith, whole, old.all);
      count = omega (arith, old.count);
      most = omega (arith, old.most);
    }

-- no call is counted in empty slots
pub counted_none : AreCounted [] (replicate 976 0) 0 0
counted_none = record {
  slots = length-replicate {A = ℕ} 976 0;
  below = λ slot few. ap (λ l. sum l) (take-replicate slot 976 0 few) ∙ sum_by-replicate (λ x. x) slot 0 ∙ omega arith;
  all = sum_by-replicate (λ x. x) 976 0;
  count = refl;
  most = refl;
}

more_whole : (xs : List ℕ) (n : ℕ) → length xs ≤ n → sum (take (n + 1) xs) ≡ sum (take n xs)
more_whole xs n h = ap (λ l. sum l) (take_all (n + 1) xs (omega (arith, h)) ∙ sym (take_all n xs h))

-- sums of numbers place by place add up
sums_more : (xs ys zs : List ℕ) (n : ℕ) → length ys ≡ length xs → length zs ≡ length xs → AreSums xs ys zs → sum (take n zs) ≡ sum (take n xs) + sum (take n ys) → (n < length xs) ⊎ (length xs ≤ n)
    → sum (take (n + 1) zs) ≡ sum (take (n + 1) xs) + sum (take (n + 1) ys)
sums_more xs ys zs n both all each so_far (inl low) =
    omega (arith, so_far, each n, sum_by_more (λ x. x) xs n 0 low, sum_by_more (λ x. x) ys n 0 (omega (arith, low, both)), sum_by_more (λ x. x) zs n 0 (omega (arith, low, all)))
sums_more xs ys zs n both all each so_far (inr high) =
    omega (arith, so_far, more_whole xs n high, more_whole ys n (omega (arith, high, both)), more_whole zs n (omega (arith, high, all)))

sums_of : (xs ys zs : List ℕ) (n : ℕ) → length ys ≡ length xs → length zs ≡ length xs → AreSums xs ys zs → sum (take n zs) ≡ sum (take n xs) + sum (take n ys)
sums_of xs ys zs zero both all each = refl
sums_of xs ys zs (suc n) both all each =
    let is : suc n ≡ n + 1 = omega arith in
    rw is (sums_more xs ys zs n both all each (sums_of xs ys zs n both all each) (either n (length xs)))

longest-append : (xs ys : List ℕ) → longest_in (xs ++ ys) ≡ max (longest_in xs) (longest_in ys)
longest-append [] ys = omega arith
longest-append (x ∷ xs) ys = omega (arith, longest-append xs ys)

-- the calls of two lists are counted by the sums of their counts
pub counted_added : (times counts : List ℕ) (calls longest : ℕ) (others added : List ℕ) (more most : ℕ) (new : List ℕ)
    → AreCounted times counts calls longest → AreCounted others added more most → length new ≡ length counts → AreSums counts added new → sum new ≡ sum counts + sum added
    → AreCounted (others ++ times) new (calls + more) (max longest most)
counted_added times counts calls longest others added more most new one other size each all = record {
  slots = size ∙ one.slots;
  below = λ slot few.
      omega (
        arith,
        sums_of counts added new slot (omega (arith, one.slots, other.slots)) size each,
        one.below slot few,
        other.below slot few,
        sum_by-append (λ t. cond (nat_lt t (least_of slot)) 1 0) others times,
      );
  all = omega (arith, all, one.all, other.all);
  count = omega (arith, one.count, other.count, length-append others times);
  most = omega (arith, one.most, other.most, longest-append others times);
}

-- the longest time of the slot in which a rank falls is the time at that rank
pub time_of_slot : (times counts : List ℕ) (calls longest slot rank time : ℕ) → AreCounted times counts calls longest → IsSlotAt rank counts slot
    → time + 1 ≡ end_of slot → IsNear (least_of slot) time → IsTimeAt rank times time
time_of_slot times counts calls longest slot rank time counted at is near =
    let low : slot < 976 = omega (arith, at.low, counted.slots) in
    let next : least_of (slot + 1) ≡ time + 1 = least-next slot ∙ sym is in
    let up_to : rank ≤ calls_below (least_of (slot + 1)) times = omega (arith, at.within, counted.below (slot + 1) (omega (arith, low))) in
    record {
      least = least_of slot;
      near = near;
      above = omega (arith, at.above, counted.below slot (omega (arith, low)));
      within = rw next at up_to;
    }

all_below : (times : List ℕ) (time : ℕ) → longest_in times < time → calls_below time times ≡ length times
all_below [] time h = refl
all_below (t ∷ times) time h = omega (arith, call_below t time times (omega (arith, h)), all_below times time (omega (arith, h)))

either_within : (m n : ℕ) → (m ≤ n) ⊎ (n ≤ m)
either_within m n = grind arith

least_within_rank : (times : List ℕ) (rank time least : ℕ) → least ≡ min time (longest_in times) → rank ≤ length times → rank ≤ calls_below (time + 1) times
    → (time ≤ longest_in times) ⊎ (longest_in times ≤ time) → rank ≤ calls_below (least + 1) times
least_within_rank times rank time least is few within (inl short) = let e : least ≡ time = omega (arith, is, short) in rw e within
least_within_rank times rank time least is few within (inr long) = omega (arith, few, all_below times (least + 1) (omega (arith, is, long)))

-- so is the longest of all times, if it is shorter
pub time_within : (times : List ℕ) (rank time : ℕ) → rank ≤ length times → IsTimeAt rank times time → IsTimeAt rank times (min time (longest_in times))
time_within times rank time few at = record {
  least = at.least;
  near = omega (arith, at.near);
  above = at.above;
  within = least_within_rank times rank time (min time (longest_in times)) refl few at.within (either_within time (longest_in times));
}

-- a list that was written over another one of its length is all that is there
pub written_whole : (xs items : List ℕ) (n : ℕ) → length xs ≡ length items → n ≡ length items → take n (xs ++ drop (length xs) items) ≡ xs
written_whole xs items n same is =
    ap (λ l. take n (xs ++ l)) (drop_all (length xs) items (omega (arith, same))) ∙ ap (λ l. take n l) (append-nil xs) ∙ take_all n xs (omega (arith, same, is))
