-- If each range of a plan has a byte, they are joined to the same ranges in any order.
use Rattle.std.proofs.Common.{ℕ, suc, ◌≡◌, ◌≤◌, ◌<◌, ◌+◌, ◌*◌, Bool, true, false, ◌&&◌, ◌||◌, List, [], ◌∷◌, length, map, get_or, nat_lt, nat_le, refl, sym, ap, ◌∙◌, arith}
use Rattle.std.specs.Prelude.{◌==◌, fold}
use Rattle.std.specs.List.{All, AllByRecursion, list_all, list_any}
use Rattle.std.specs.List.Sorted.{IsPermutation}
use Rattle.std.proofs.lemmas.Bool.{and_parts, false_from_ne_true}
use Rattle.std.proofs.lemmas.Grind.{common_steps}
use Rattle.std.proofs.lemmas.List.Elements.{All-from_recursion, recursion_from_All}
use Rattle.std.proofs.lemmas.List.Sorted.{All-permutation, list_any-IsPermutation}
use Rattle.base.specs.declared.operation.Shape.{Shape}
use Rattle.base.specs.declared.range.ObjectRange.{ObjectRange}
use Rattle.transactions.specs.LockRanges.{AreAfter, Rise, has_byte, is_before, joined_neighbours, lock_ranges, shape_range, with_range}
use Rattle.transactions.specs.RangeIndexes.{AreInOrder}
use Rattle.transactions.proofs.ApartRanges.{AreApart, in_turn_apart, is_past, neighbours_apart}
use Rattle.transactions.proofs.RangeIndexes.{in_order}
use Rattle.transactions.proofs.RangePoints.{has_point, in_turn_points, neighbours_points, or_none}
use Rattle.transactions.proofs.RisingRanges.{is_less}

abbrev HaveSamePoints : List ObjectRange → List ObjectRange → Type 0
HaveSamePoints ys zs = (o q : ℕ) → list_any (has_point o q) ys ≡ list_any (has_point o q) zs

-- points of numbers: ranges of m from a to b, of n from l to h
own_first : (m a b : ℕ) → nat_lt a b ≡ true → ((m == m) && (nat_lt (2 * a) (2 * a + 1) && nat_lt (2 * a + 1) (2 * b))) ≡ true
own_first m a b byte = grind (arith, common_steps)

not_in_later : (m a n l h : ℕ) → is_less m a n l ≡ true → ((n == m) && (nat_lt (2 * l) (2 * a + 1) && nat_lt (2 * a + 1) (2 * h))) ≡ false
not_in_later m a n l h less = grind (arith, common_steps)

before_more : (m a n l h k c : ℕ) → is_less m a n l ≡ true → nat_lt l h ≡ true → (nat_lt n k || ((n == k) && nat_le h c)) ≡ true → is_less m a k c ≡ true
before_more m a n l h k c less byte past = grind (arith, common_steps)

-- the point after the last byte
own_end : (m a b : ℕ) → ((m == m) && (nat_lt (2 * a) (2 * b) && nat_lt (2 * b) (2 * b))) ≡ false
own_end m a b = grind (arith, common_steps)

end_of_past : (m b n l h : ℕ) → (nat_lt m n || ((m == n) && nat_le b l)) ≡ true → ((n == m) && (nat_lt (2 * l) (2 * b) && nat_lt (2 * b) (2 * h))) ≡ false
end_of_past m b n l h past = grind (arith, common_steps)

end_in_longer : (m a b n l h : ℕ) → nat_lt a b ≡ true → n ≡ m → l ≡ a → nat_lt b h ≡ true → ((n == m) && (nat_lt (2 * l) (2 * b) && nat_lt (2 * b) (2 * h))) ≡ true
end_in_longer m a b n l h byte same first longer = grind (arith, common_steps)

-- no point of a range is in one past it
point_apart : (o q m a b n l h : ℕ) → (nat_lt m n || ((m == n) && nat_le b l)) ≡ true → ((m == o) && (nat_lt (2 * a) q && nat_lt q (2 * b))) ≡ true → ((n == o) && (nat_lt (2 * l) q && nat_lt q (2 * h))) ≡ false
point_apart o q m a b n l h past here = grind (arith, common_steps)

same_object : (m a n l : ℕ) → is_less m a n l ≡ false → is_less n l m a ≡ false → m ≡ n
same_object m a n l first second = grind (arith, common_steps)

same_low : (m a n l : ℕ) → is_less m a n l ≡ false → is_less n l m a ≡ false → a ≡ l
same_low m a n l first second = grind (arith, common_steps)

same_high : (b h : ℕ) → nat_lt b h ≡ false → nat_lt h b ≡ false → b ≡ h
same_high b h first second = grind (arith, common_steps)

none_of : (p : ObjectRange → Bool) (P : ObjectRange → Type 0) (ys : List ObjectRange) → ((y : ObjectRange) → P y → p y ≡ false) → AllByRecursion P ys → list_any p ys ≡ false
none_of p P [] none all = refl
none_of p P (y ∷ ys) none (first, rest) = rw (none y first, none_of p P ys none rest) refl

-- the first ranges of lists that are apart and have the same points
module _ (y z : ObjectRange) (ys zs : List ObjectRange) (apart : AreApart (y ∷ ys)) (others : AreApart (z ∷ zs)) (same : HaveSamePoints (y ∷ ys) (z ∷ zs)) where
  not_earlier : is_before y z ≡ true → ⊥
  not_earlier before =
      let point : ℕ = 2 * y.range.low + 1 in
      let p : ObjectRange → Bool = has_point y.object.0 point in
      let here : p y ≡ true = own_first y.object.0 y.range.low y.range.high apart.0 in
      let not_first : p z ≡ false = not_in_later y.object.0 y.range.low z.object.0 z.range.low z.range.high before in
      let none : list_any p zs ≡ false = none_of p (λ x. is_past z x ≡ true) zs (λ x past. not_in_later y.object.0 y.range.low x.object.0 x.range.low x.range.high
      (before_more y.object.0 y.range.low z.object.0 z.range.low z.range.high x.object.0 x.range.low before others.0 past)) others.1 in
      let found : (p y || list_any p ys) ≡ (p z || list_any p zs) = same y.object.0 point in
      let no : true ≡ false = rw (here, not_first, none) at found in cc

  not_shorter : y.object.0 ≡ z.object.0 → y.range.low ≡ z.range.low → nat_lt y.range.high z.range.high ≡ true → ⊥
  not_shorter object low longer =
      let point : ℕ = 2 * y.range.high in
      let p : ObjectRange → Bool = has_point y.object.0 point in
      let there : p z ≡ true = end_in_longer y.object.0 y.range.low y.range.high z.object.0 z.range.low z.range.high apart.0 (sym object) (sym low) longer in
      let not_first : p y ≡ false = own_end y.object.0 y.range.low y.range.high in
      let none : list_any p ys ≡ false = none_of p (λ x. is_past y x ≡ true) ys (λ x past. end_of_past y.object.0 y.range.high x.object.0 x.range.low x.range.high past) apart.1 in
      let found : (p y || list_any p ys) ≡ (p z || list_any p zs) = same y.object.0 point in
      let no : false ≡ true = rw (not_first, none, there) at found in cc

module _ (y z : ObjectRange) (ys zs : List ObjectRange) (apart : AreApart (y ∷ ys)) (others : AreApart (z ∷ zs)) (same : HaveSamePoints (y ∷ ys) (z ∷ zs)) where
  first_same : y ≡ z
  first_same =
      let back : HaveSamePoints (z ∷ zs) (y ∷ ys) = λ o q. sym (same o q) in
      let before = false_from_ne_true (is_before y z) (not_earlier y z ys zs apart others same) in
      let after = false_from_ne_true (is_before z y) (not_earlier z y zs ys others apart back) in
      let object = same_object y.object.0 y.range.low z.object.0 z.range.low before after in
      let low = same_low y.object.0 y.range.low z.object.0 z.range.low before after in
      let high = same_high y.range.high z.range.high (false_from_ne_true _ (not_shorter y z ys zs apart others same object low)) (false_from_ne_true _ (not_shorter z y zs ys others apart back (sym object) (sym low))) in
      λ i. record { object = record { 0 = object i }; range = record { low = low i; high = high i } }

  rest_same : y ≡ z → HaveSamePoints ys zs
  rest_same first o q = go (has_point o q y) refl
    where
      go : (b : Bool) → has_point o q y ≡ b → list_any (has_point o q) ys ≡ list_any (has_point o q) zs
      go true here =
          let there : has_point o q z ≡ true = ap (has_point o q) (sym first) ∙ here in
          none_of (has_point o q) (λ x. is_past y x ≡ true) ys (λ x past. point_apart o q y.object.0 y.range.low y.range.high x.object.0 x.range.low x.range.high past here) apart.1
          ∙ sym (none_of (has_point o q) (λ x. is_past z x ≡ true) zs (λ x past. point_apart o q z.object.0 z.range.low z.range.high x.object.0 x.range.low x.range.high past there) others.1)
      go false none =
          let not_there : has_point o q z ≡ false = ap (has_point o q) (sym first) ∙ none in
          let both : (has_point o q y || list_any (has_point o q) ys) ≡ (has_point o q z || list_any (has_point o q) zs) = same o q in
          rw (none, not_there) at both

some_point : (y : ObjectRange) (ys : List ObjectRange) → AreApart (y ∷ ys) → HaveSamePoints (y ∷ ys) [] → ⊥
some_point y ys apart same =
    let here : has_point y.object.0 (2 * y.range.low + 1) y ≡ true = own_first y.object.0 y.range.low y.range.high apart.0 in
    let found : (has_point y.object.0 (2 * y.range.low + 1) y || list_any (has_point y.object.0 (2 * y.range.low + 1)) ys) ≡ false = same y.object.0 (2 * y.range.low + 1) in
    let no : true ≡ false = rw here at found in cc

-- so the lists are the same
same_ranges : (ys zs : List ObjectRange) → AreApart ys → AreApart zs → HaveSamePoints ys zs → ys ≡ zs
same_ranges [] [] apart others same = refl
same_ranges [] (z ∷ zs) apart others same = absurd (some_point z zs others (λ o q. sym (same o q)))
same_ranges (y ∷ ys) [] apart others same = absurd (some_point y ys apart same)
same_ranges (y ∷ ys) (z ∷ zs) apart others same =
    let first = first_same y z ys zs apart others same in
    let rest = same_ranges ys zs apart.2 others.2 (rest_same y z ys zs apart others same first) in
    λ i. first i ∷ rest i

neighbours_all_apart : (xs : List ObjectRange) → AllByRecursion (λ x. has_byte x ≡ true) xs → Rise xs → AreApart (joined_neighbours xs)
neighbours_all_apart [] bytes rise = tt
neighbours_all_apart (x ∷ xs) (byte, bytes) (after, rise) = neighbours_apart x xs byte bytes after rise

neighbours_all_points : (o q : ℕ) (xs : List ObjectRange) → list_any (has_point o q) (joined_neighbours xs) ≡ list_any (has_point o q) xs
neighbours_all_points o q [] = refl
neighbours_all_points o q (x ∷ xs) = neighbours_points o q x xs

bytes_of : (plan : List Shape) → list_all (λ s. has_byte (shape_range s)) plan ≡ true → AllByRecursion (λ x. has_byte x ≡ true) (map shape_range plan)
bytes_of [] all = tt
bytes_of (s ∷ plan) all =
    let parts = and_parts (has_byte (shape_range s)) (list_all (λ s. has_byte (shape_range s)) plan) all in
    (parts.0, bytes_of plan parts.1)

-- in order, as a list
all_after : (x : ObjectRange) (ys : List ObjectRange) → All (λ y. is_before y x ≡ false) ys → AreAfter x ys
all_after x [] all = tt
all_after x (y ∷ ys) all = (all 0 y (omega arith), all_after x ys (λ k d below. all (suc k) d (omega (arith, below))))

rise_all : (xs : List ObjectRange) → ((i j : ℕ) (d : ObjectRange) → i ≤ j → j < length xs → is_before (get_or xs j d) (get_or xs i d) ≡ false) → Rise xs
rise_all [] all = tt
rise_all (x ∷ xs) all = (all_after x xs (λ k d below. all 0 (suc k) d (omega arith) (omega (arith, below))), rise_all xs (λ i j d le below. all (suc i) (suc j) d (omega (arith, le)) (omega (arith, below))))

-- the ranges of a plan in order, joined with the next ones, are those that it has to lock
pub sorted_are_locked : (plan : List Shape) (sorted : List ObjectRange) → list_all (λ s. has_byte (shape_range s)) plan ≡ true → AreInOrder sorted → IsPermutation (map shape_range plan) sorted → joined_neighbours sorted ≡ lock_ranges plan
unfolding lock_ranges
sorted_are_locked plan sorted all order same =
    let ranges : List ObjectRange = map shape_range plan in
    let bytes : AllByRecursion (λ x. has_byte x ≡ true) ranges = bytes_of plan all in
    let sorted_bytes : AllByRecursion (λ x. has_byte x ≡ true) sorted = recursion_from_All (λ x. has_byte x ≡ true) sorted (All-permutation (λ x. has_byte x ≡ true) ranges sorted same (All-from_recursion (λ x. has_byte x ≡ true) ranges bytes)) in
    same_ranges (joined_neighbours sorted) (fold with_range [] ranges) (neighbours_all_apart sorted sorted_bytes (rise_all sorted (in_order sorted order))) (in_turn_apart ranges [] bytes tt)
    (λ o q. neighbours_all_points o q sorted ∙ sym (list_any-IsPermutation (has_point o q) ranges sorted same) ∙ or_none (list_any (has_point o q) ranges) ∙ sym (in_turn_points o q ranges []))
