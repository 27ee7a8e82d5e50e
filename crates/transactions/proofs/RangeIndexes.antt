-- Of ranges in order, the last one that begins before the end of a range decides whether one overlaps it, and the first
-- one that doesn't begin before it whether one lies in it.
use Rattle.std.proofs.Common.{ℕ, suc, ◌≡◌, ◌<◌, ◌≤◌, ◌+◌, Bool, true, false, ◌&&◌, ◌||◌, List, [], ◌∷◌, length, map, get_or, take, drop, nat_lt, nat_le, refl, sym, ap, subst, ◌∙◌, arith, cond}
use Rattle.std.specs.Prelude.{◌==◌}
use Rattle.std.specs.Cmp.{IsStrictWeakOrder}
use Rattle.std.specs.List.{All, AllWithin, list_any}
use Rattle.std.specs.List.Sorted.{IsPartitionPoint, IsPartitionedBy, IsPermutation, IsSortedBy}
use Rattle.std.specs.Ordering.{is_lt, nat_cmp, ordering_then}
use Rattle.std.specs.declared.cmp.Ordering.{Ordering}
use Rattle.std.specs.declared.cmp.Ordering.TheVariants.{Equal, Greater, Less}
use Rattle.std.proofs.lemmas.Grind.{common_steps}
use Rattle.std.proofs.lemmas.List.{drop_all, get_or-drop, get_or_default, get_or-take, length-drop, length-take-le, take-append-drop}
use Rattle.std.proofs.lemmas.List.Folds.{list_any-append, list_any_none}
use Rattle.std.proofs.lemmas.List.Sorted.{list_any-IsPermutation, sorted_far}
use Rattle.std.proofs.Math.Bool.{or-false}
use Rattle.base.specs.declared.range.ObjectRange.{ObjectRange}
use Rattle.base.specs.history.Plans.{NumberRange, lies_in, number_range, overlaps}
use Rattle.transactions.specs.LockRanges.{is_before, shape_range}
use Rattle.transactions.specs.Ranges.{has_kept_in, kept_range_of, kept_ranges_overlap}
use Rattle.base.specs.declared.operation.Shape.{Shape}
use Rattle.base.proofs.common.KeptLists.{any_map}
use Rattle.transactions.specs.RangeIndexes.{AreHighest, AreInOrder, AreLeast, begins_before, ends_after, ends_by}
use Rattle.transactions.proofs.RisingRanges.{before_asym, before_trans, is_less}

is_before-order : IsStrictWeakOrder is_before
is_before-order = record { one_way = before_asym; chain = before_trans }

pub in_order : (ranges : List ObjectRange) → AreInOrder ranges → (i j : ℕ) (d : ObjectRange) → i ≤ j → j < length ranges → is_before (get_or ranges j d) (get_or ranges i d) ≡ false
in_order ranges order = sorted_far is_before is_before-order ranges order

-- what a sort by object and low end says
lt_chosen : (less same : Bool) (o : Ordering) → is_lt (ordering_then (cond less Less (cond same Equal Greater)) o) ≡ (less || (same && is_lt o))
lt_chosen true same o = refl
lt_chosen false true o = refl
lt_chosen false false o = refl

lt_number : (less same : Bool) → is_lt (cond less Less (cond same Equal Greater)) ≡ less
lt_number true same = refl
lt_number false true = refl
lt_number false false = refl

key_order : (a b c d : ℕ) → is_lt (ordering_then (nat_cmp a c) (nat_cmp b d)) ≡ is_less a b c d
key_order a b c d = lt_chosen (nat_lt a c) (a == c) (nat_cmp b d) ∙ ap (λ (t : Bool). nat_lt a c || ((a == c) && t)) (lt_number (nat_lt b d) (b == d))

pub sorted_in_order : (ranges : List ObjectRange) → IsSortedBy (λ (x y : ObjectRange). is_lt (ordering_then (nat_cmp x.object.0 y.object.0) (nat_cmp x.range.low y.range.low))) ranges → AreInOrder ranges
sorted_in_order ranges sorted k d low below =
    let a : ObjectRange = get_or ranges (k + 1) d in
    let b : ObjectRange = get_or ranges k d in
    sym (key_order a.object.0 a.range.low b.object.0 b.range.low) ∙ sorted k d low below

-- what comes no later than one that begins before a place does so too
less_chain : (a b c d e f : ℕ) → is_less c d a b ≡ false → is_less c d e f ≡ true → is_less a b e f ≡ true
less_chain a b c d e f h k = grind (arith, common_steps)

pub begun_first : (ranges : List ObjectRange) (object place : ℕ) → AreInOrder ranges → IsPartitionedBy (begins_before object place) ranges
begun_first ranges object place order i j d le below begun =
    let a : ObjectRange = get_or ranges i d in
    let b : ObjectRange = get_or ranges j d in
    less_chain a.object.0 a.range.low b.object.0 b.range.low object place (in_order ranges order i j d le below) begun

-- a range of n from l to h, and one of o from a to b
overlap_begun : (n l h o a b : ℕ) → is_less o a n h ≡ true → ((n == o) && (nat_lt l b && nat_lt a h)) ≡ ((o == n) && nat_lt l b)
overlap_begun n l h o a b begun = grind (arith, common_steps)

overlap_later : (n l h o a b : ℕ) → is_less o a n h ≡ false → ((n == o) && (nat_lt l b && nat_lt a h)) ≡ false
overlap_later n l h o a b later = grind (arith, common_steps)

lies_begun : (n l h o a b : ℕ) → is_less o a n l ≡ true → ((o == n) && (nat_le l a && nat_le b h)) ≡ false
lies_begun n l h o a b begun = grind (arith, common_steps)

lies_later : (n l h o a b : ℕ) → is_less o a n l ≡ false → ((o == n) && (nat_le l a && nat_le b h)) ≡ ((o == n) && nat_le b h)
lies_later n l h o a b later = grind (arith, common_steps)

-- of ranges in order: none before one that begins before a place of another object is of that object, nor is one after
-- one that does not
earlier_other : (a b c d n h : ℕ) (t : Bool) → is_less c d a b ≡ false → is_less c d n h ≡ true → (c ≡ n → ⊥) → ((a == n) && t) ≡ false
earlier_other a b c d n h t order begun other = rw (let no : (a == n) ≡ false = grind (arith, common_steps) in no) refl

later_other : (a b c d n l : ℕ) (t : Bool) → is_less c d a b ≡ false → is_less a b n l ≡ false → (a ≡ n → ⊥) → ((c == n) && t) ≡ false
later_other a b c d n l t order later other = rw (let no : (c == n) ≡ false = grind (arith, common_steps) in no) refl

pub not_equal : (a b : ℕ) → (a ≡ b → ⊥) → (a == b) ≡ false
not_equal a b other = grind (arith, common_steps)

module _ {X : Type 0} where
  any_same : (p q : X → Bool) (xs : List X) → All (λ x. p x ≡ q x) xs → list_any p xs ≡ list_any q xs
  any_same p q [] same = refl
  any_same p q (x ∷ xs) same = rw (same 0 x (omega arith), any_same p q xs (λ k d below. same (suc k) d (omega (arith, below)))) refl

  any_split : (p : X → Bool) (xs : List X) (n : ℕ) → list_any p xs ≡ (list_any p (take n xs) || list_any p (drop n xs))
  any_split p xs n = ap (list_any p) (sym (take-append-drop n xs)) ∙ list_any-append p (take n xs) (drop n xs)

  pub all_taken : (P : X → Type 0) (xs : List X) (n : ℕ) → n ≤ length xs → AllWithin P xs 0 n → All P (take n xs)
  all_taken P xs n le each k d below =
      let low : k < n = rw (length-take-le n xs le) at below in
      subst P (sym (get_or-take n xs k d low)) (each k d (omega arith) low)

  pub all_dropped : (P : X → Type 0) (xs : List X) (n : ℕ) → AllWithin P xs n (length xs) → All P (drop n xs)
  all_dropped P xs n each k d below =
      let left = length-drop n xs in
      subst P (sym (get_or-drop n xs k d)) (each (n + k) d (omega arith) (omega (arith, left, below)))

-- which ranges may overlap one, and which may lie in one
module _ (ranges : List ObjectRange) (object place n : ℕ) (le : n ≤ length ranges) (point : IsPartitionPoint (λ x. begins_before object place x ≡ true) (λ x. begins_before object place x ≡ false) ranges n) where
  -- a test of those before the place that fails of the others, and one of the others that fails of those before it
  settled_before : (p q : ObjectRange → Bool) → ((x : ObjectRange) → begins_before object place x ≡ true → p x ≡ q x) → ((x : ObjectRange) → begins_before object place x ≡ false → p x ≡ false)
      → list_any p ranges ≡ list_any q (take n ranges)
  settled_before p q here none =
      let first = any_same p q (take n ranges) (all_taken (λ x. p x ≡ q x) ranges n le (λ k d low below. here (get_or ranges k d) (point.0 k d low below))) in
      let rest = list_any_none p (drop n ranges) (all_dropped (λ x. p x ≡ false) ranges n (λ k d low below. none (get_or ranges k d) (point.1 k d low below))) in
      any_split p ranges n ∙ rw (first, rest) (or-false (list_any q (take n ranges)))

  settled_after : (p q : ObjectRange → Bool) → ((x : ObjectRange) → begins_before object place x ≡ true → p x ≡ false) → ((x : ObjectRange) → begins_before object place x ≡ false → p x ≡ q x)
      → list_any p ranges ≡ list_any q (drop n ranges)
  settled_after p q none here =
      let first = list_any_none p (take n ranges) (all_taken (λ x. p x ≡ false) ranges n le (λ k d low below. none (get_or ranges k d) (point.0 k d low below))) in
      let rest = any_same p q (drop n ranges) (all_dropped (λ x. p x ≡ q x) ranges n (λ k d low below. here (get_or ranges k d) (point.1 k d low below))) in
      any_split p ranges n ∙ rw (first, rest) refl

-- the last one that begins before the end of a range
module _ (ranges : List ObjectRange) (ends : List ℕ) (order : AreInOrder ranges) (highest : AreHighest ranges ends) (r : NumberRange) (n : ℕ) (le : n ≤ length ranges)
    (point : IsPartitionPoint (λ x. begins_before r.number r.high x ≡ true) (λ x. begins_before r.number r.high x ≡ false) ranges n) where
  overlaps_first : list_any (λ x. overlaps r (number_range x)) ranges ≡ list_any (ends_after r.number r.low) (take n ranges)
  overlaps_first =
      settled_before ranges r.number r.high n le point (λ x. overlaps r (number_range x)) (ends_after r.number r.low)
      (λ x begun. overlap_begun r.number r.low r.high x.object.0 x.range.low x.range.high begun)
      (λ x later. overlap_later r.number r.low r.high x.object.0 x.range.low x.range.high later)

  pub none_begun : n ≡ 0 → list_any (λ x. overlaps r (number_range x)) ranges ≡ false
  none_begun none = overlaps_first ∙ ap (λ k. list_any (ends_after r.number r.low) (take k ranges)) none

  pub last_of_object : (last : ℕ) (d : ObjectRange) (e : ℕ) → last + 1 ≡ n → (get_or ranges last d).object.0 ≡ r.number → list_any (λ x. overlaps r (number_range x)) ranges ≡ nat_lt r.low (get_or ends last e)
  last_of_object last d e next number =
      let below : last < length ranges = omega (arith, next, le) in
      overlaps_first ∙ ap (λ k. list_any (ends_after r.number r.low) (take k ranges)) (sym next)
      ∙ ap (λ k. list_any (ends_after k r.low) (take (last + 1) ranges)) (sym number) ∙ sym (highest.each last below r.low d)
      ∙ ap (nat_lt r.low) (get_or_default ends last 0 e (omega (arith, below, highest.long)))

  pub last_of_other : (last : ℕ) (d : ObjectRange) → last + 1 ≡ n → ((get_or ranges last d).object.0 ≡ r.number → ⊥) → list_any (λ x. overlaps r (number_range x)) ranges ≡ false
  last_of_other last d next other =
      let below : last < length ranges = omega (arith, next, le) in
      overlaps_first
      ∙ list_any_none (ends_after r.number r.low) (take n ranges) (all_taken (λ x. ends_after r.number r.low x ≡ false) ranges n le (λ k e low before.
      let a : ObjectRange = get_or ranges k e in
      let b : ObjectRange = get_or ranges last e in
      earlier_other a.object.0 a.range.low b.object.0 b.range.low r.number r.high (nat_lt r.low a.range.high) (in_order ranges order k last e (omega (arith, next, before)) below)
      (point.0 last e (omega arith) (omega (arith, next))) (λ same. other (ap (λ (x : ObjectRange). x.object.0) (get_or_default ranges last d e below) ∙ same))))

-- the first one that doesn't begin before a range
module _ (ranges : List ObjectRange) (ends : List ℕ) (order : AreInOrder ranges) (least : AreLeast ranges ends) (r : NumberRange) (n : ℕ) (le : n ≤ length ranges)
    (point : IsPartitionPoint (λ x. begins_before r.number r.low x ≡ true) (λ x. begins_before r.number r.low x ≡ false) ranges n) where
  lies_later_on : list_any (λ x. lies_in (number_range x) r) ranges ≡ list_any (ends_by r.number r.high) (drop n ranges)
  lies_later_on =
      settled_after ranges r.number r.low n le point (λ x. lies_in (number_range x) r) (ends_by r.number r.high)
      (λ x begun. lies_begun r.number r.low r.high x.object.0 x.range.low x.range.high begun)
      (λ x later. lies_later r.number r.low r.high x.object.0 x.range.low x.range.high later)

  pub none_left : length ranges ≤ n → list_any (λ x. lies_in (number_range x) r) ranges ≡ false
  none_left past = lies_later_on ∙ ap (list_any (ends_by r.number r.high)) (drop_all n ranges past)

  pub first_of_object : (d : ObjectRange) (e : ℕ) → n < length ranges → (get_or ranges n d).object.0 ≡ r.number → list_any (λ x. lies_in (number_range x) r) ranges ≡ nat_le (get_or ends n e) r.high
  first_of_object d e left number =
      lies_later_on ∙ ap (λ k. list_any (ends_by k r.high) (drop n ranges)) (sym number) ∙ sym (least.each n left r.high d)
      ∙ ap (λ k. nat_le k r.high) (get_or_default ends n 0 e (omega (arith, left, least.long)))

  pub first_of_other : (d : ObjectRange) → n < length ranges → ((get_or ranges n d).object.0 ≡ r.number → ⊥) → list_any (λ x. lies_in (number_range x) r) ranges ≡ false
  first_of_other d left other =
      lies_later_on
      ∙ list_any_none (ends_by r.number r.high) (drop n ranges) (all_dropped (λ x. ends_by r.number r.high x ≡ false) ranges n (λ k e low below.
      let a : ObjectRange = get_or ranges n e in
      let b : ObjectRange = get_or ranges k e in
      later_other a.object.0 a.range.low b.object.0 b.range.low r.number r.low (nat_le b.range.high r.high) (in_order ranges order n k e low below)
      (point.1 n e (omega arith) left) (λ same. other (ap (λ (x : ObjectRange). x.object.0) (get_or_default ranges n d e left) ∙ same))))

-- what is asked of the ranges of a plan, in some order, is asked of the plan
module _ (plan : List Shape) (ranges : List ObjectRange) (same : IsPermutation (map shape_range plan) ranges) where
  asked_same : (p : ObjectRange → Bool) → list_any p ranges ≡ list_any (λ x. p (shape_range x)) plan
  asked_same p = sym (list_any-IsPermutation p (map shape_range plan) ranges same) ∙ any_map p shape_range plan

  pub kept_overlap : (other : List Shape) → list_any (λ s. list_any (λ x. overlaps (kept_range_of s) (number_range x)) ranges) other ≡ kept_ranges_overlap other plan
  kept_overlap other i = list_any (λ s. asked_same (λ x. overlaps (kept_range_of s) (number_range x)) i) other

  pub kept_within : (r : NumberRange) → list_any (λ x. lies_in (number_range x) r) ranges ≡ has_kept_in r plan
  kept_within r = asked_same (λ x. lies_in (number_range x) r)
