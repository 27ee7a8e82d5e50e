-- The ranges that a plan has to lock are in order.
use Rattle.std.proofs.Common.{◌≡◌, ◌||◌, ◌&&◌, ℕ, suc, zero, Bool, true, false, List, [], ◌∷◌, map, nat_lt, refl, sym, subst, ap, ◌∙◌, ◌+◌, cond, arith}
use Rattle.std.specs.Prelude.{◌==◌, count_by, filter, fold, insert}
use Rattle.std.proofs.lemmas.Grind.{common_steps}
use Rattle.std.proofs.lemmas.List.Sums.{sum_by-cons}
use Rattle.base.specs.declared.range.ObjectRange.{ObjectRange}
use Rattle.transactions.specs.LockRanges.{AreAfter, LockRangesRise, Rise, is_before, lock_ranges, placed, shape_range, with_range}

-- of pairs of numbers: whether the first comes first
abbrev pub is_less : ℕ → ℕ → ℕ → ℕ → Bool
is_less a b c d = nat_lt a c || ((a == c) && nat_lt b d)

less_asym : (a b c d : ℕ) → is_less a b c d ≡ true → is_less c d a b ≡ false
less_asym a b c d h = grind (arith, common_steps)

less_trans : (a b c d e f : ℕ) → is_less a b c d ≡ false → is_less c d e f ≡ false → is_less a b e f ≡ false
less_trans a b c d e f h k = grind (arith, common_steps)

pub before_asym : (a b : ObjectRange) → is_before a b ≡ true → is_before b a ≡ false
before_asym a b h = less_asym a.object.0 a.range.low b.object.0 b.range.low h

pub before_trans : (a b c : ObjectRange) → is_before a b ≡ false → is_before b c ≡ false → is_before a c ≡ false
before_trans a b c h k = less_trans a.object.0 a.range.low b.object.0 b.range.low c.object.0 c.range.low h k

pub filter_next : (p : ObjectRange → Bool) (y : ObjectRange) (ys : List ObjectRange) (P : List ObjectRange → Type 0) → (p y ≡ true → P (y ∷ filter p ys)) → (p y ≡ false → P (filter p ys)) → P (filter p (y ∷ ys))
filter_next p y ys P there gone = go (p y) refl
  where
    go : (b : Bool) → p y ≡ b → P (filter p (y ∷ ys))
    go true is = rw is (there is)
    go false is = rw is (gone is)

after_filter : (p : ObjectRange → Bool) (x : ObjectRange) (ys : List ObjectRange) → AreAfter x ys → AreAfter x (filter p ys)
after_filter p x [] h = tt
after_filter p x (y ∷ ys) (first, rest) = filter_next p y ys (AreAfter x) (λ _. (first, after_filter p x ys rest)) (λ _. after_filter p x ys rest)

rise_filter : (p : ObjectRange → Bool) (ys : List ObjectRange) → Rise ys → Rise (filter p ys)
rise_filter p [] h = tt
rise_filter p (y ∷ ys) (first, rest) = filter_next p y ys Rise (λ _. (after_filter p y ys first, rise_filter p ys rest)) (λ _. rise_filter p ys rest)

after_insert : (x w : ObjectRange) (ys : List ObjectRange) (n : ℕ) → is_before w x ≡ false → AreAfter x ys → AreAfter x (insert ys n w)
after_insert x w ys zero h all = (h, all)
after_insert x w [] (suc n) h all = (h, tt)
after_insert x w (y ∷ ys) (suc n) h (first, rest) = (first, after_insert x w ys n h rest)

after_on : (w y : ObjectRange) (ys : List ObjectRange) → is_before y w ≡ false → AreAfter y ys → AreAfter w ys
after_on w y [] h all = tt
after_on w y (z ∷ zs) h (first, rest) = (before_trans z y w first h, after_on w y zs h rest)

count_next : (w y : ObjectRange) (ys : List ObjectRange) → count_by (λ x. is_before x w) (y ∷ ys) ≡ cond (is_before y w) 1 0 + count_by (λ x. is_before x w) ys
count_next w y ys = sum_by-cons (λ x. cond (is_before x w) 1 0) y ys

-- how many of the ranges begin before this one
abbrev pub count_before : ObjectRange → List ObjectRange → ℕ
count_before w ys = count_by (λ x. is_before x w) ys

count_at : (b : Bool) (w y : ObjectRange) (ys : List ObjectRange) → is_before y w ≡ b → count_before w (y ∷ ys) ≡ cond b 1 0 + count_before w ys
count_at b w y ys is = count_next w y ys ∙ ap (λ c. cond c 1 0 + count_before w ys) is

pub none_counted : (w : ObjectRange) (ys : List ObjectRange) → AreAfter w ys → count_before w ys ≡ 0
none_counted w [] h = refl
none_counted w (y ∷ ys) (first, rest) =
    let none : count_before w ys ≡ 0 = none_counted w ys rest in
    let sum : 0 + count_before w ys ≡ 0 = omega (arith, none) in
    count_at false w y ys first ∙ sum

pub one_counted : (w y : ObjectRange) (ys : List ObjectRange) → is_before y w ≡ true → count_before w (y ∷ ys) ≡ suc (count_before w ys)
one_counted w y ys is =
    let sum : 1 + count_before w ys ≡ suc (count_before w ys) = omega arith in
    count_at true w y ys is ∙ sum

rise_placed : (w : ObjectRange) (ys : List ObjectRange) → Rise ys → Rise (placed w ys)
rise_placed w [] h = (tt, tt)
rise_placed w (y ∷ ys) (first, rest) = go (is_before y w) refl (rise_placed w ys rest)
  where
    go : (b : Bool) → is_before y w ≡ b → Rise (placed w ys) → Rise (placed w (y ∷ ys))
    go true is later = subst (λ n. Rise (insert (y ∷ ys) n w)) (sym (one_counted w y ys is)) (after_insert y w ys (count_before w ys) (before_asym y w is) first, later)
    go false is later =
        let all : AreAfter w (y ∷ ys) = (is, after_on w y ys is first) in
        subst (λ n. Rise (insert (y ∷ ys) n w)) (sym (none_counted w (y ∷ ys) all)) (all, (first, rest))

rise_fold : (xs ranges : List ObjectRange) → Rise ranges → Rise (fold with_range ranges xs)
rise_fold [] ranges h = h
rise_fold (x ∷ xs) ranges h = rise_fold xs (with_range ranges x) (rise_placed _ _ (rise_filter _ ranges h))

pub lock_ranges-rise : LockRangesRise
unfolding lock_ranges
lock_ranges-rise plan = rise_fold (map shape_range plan) [] tt
