-- The ends of ranges in order, raised one by one to the highest before them, or lowered to the least after them.
use Rattle.std.proofs.Common.{ℕ, ◌≡◌, ◌≢◌, ◌<◌, ◌≤◌, ◌+◌, Bool, false, ◌&&◌, ◌||◌, List, length, get_or, set, take, drop, nat_lt, nat_le, refl, sym, ap, subst, ◌∙◌, arith, ⊎_elim}
use Rattle.std.specs.Prelude.{◌==◌, max, min}
use Rattle.std.specs.List.{list_any}
use Rattle.std.proofs.lemmas.Bool.{cases_eq}
use Rattle.std.proofs.lemmas.Bool.Decides.{nat_tests}
use Rattle.std.proofs.lemmas.Grind.{common_steps}
use Rattle.std.proofs.lemmas.List.{drop_more, get_or-set_other, get_or-set_same, get_or_default, length-set}
use Rattle.std.proofs.lemmas.List.Folds.{list_any_more, list_any_none}
use Rattle.base.specs.declared.range.ObjectRange.{ObjectRange}
use Rattle.transactions.specs.RangeIndexes.{AreInOrder, IsHighest, IsLeast, ends_after, ends_by, high_of}
use Rattle.transactions.proofs.RangeIndexes.{all_dropped, all_taken, in_order}
use Rattle.transactions.proofs.RisingRanges.{is_less}

-- the ends before a place are raised, and those from it on are the ranges' own
pub record AreRaised (ranges : List ObjectRange) (ends : List ℕ) (place : ℕ) : Type 0 where
  pub long : length ends ≡ length ranges
  pub raised : (k : ℕ) → k < length ranges → k < place → IsHighest ranges k (get_or ends k 0)
  pub own : (k : ℕ) (d : ObjectRange) → k < length ranges → place ≤ k → get_or ends k 0 ≡ high_of (get_or ranges k d)

-- the ends from the one before a place on are lowered, and those before that are the ranges' own
pub record AreLowered (ranges : List ObjectRange) (ends : List ℕ) (place : ℕ) : Type 0 where
  pub long : length ends ≡ length ranges
  pub lowered : (k : ℕ) → k < length ranges → place ≤ k + 1 → IsLeast ranges k (get_or ends k 0)
  pub own : (k : ℕ) (d : ObjectRange) → k < length ranges → k + 1 < place → get_or ends k 0 ≡ high_of (get_or ranges k d)

-- tests of one more number
after_own : (n place high : ℕ) → nat_lt place high ≡ (false || ((n == n) && nat_lt place high))
after_own n place high = grind (arith, common_steps)

after_max : (n place high before : ℕ) → nat_lt place (max high before) ≡ (nat_lt place before || ((n == n) && nat_lt place high))
after_max n place high before = grind (arith, nat_tests, common_steps)

by_own : (n place high : ℕ) → nat_le high place ≡ (((n == n) && nat_le high place) || false)
by_own n place high = grind (arith, common_steps)

by_min : (n place high after : ℕ) → nat_le (min high after) place ≡ (((n == n) && nat_le high place) || nat_le after place)
by_min n place high after = grind (arith, nat_tests, common_steps)

-- neighbours in order of two objects: none before is of the later object, and none after of the earlier one
before_other : (a b c d n : ℕ) (t : Bool) → is_less c d a b ≡ false → c < n → ((a == n) && t) ≡ false
before_other a b c d n t order less = rw (let no : (a == n) ≡ false = grind (arith, common_steps) in no) refl

after_other : (a b c d n : ℕ) (t : Bool) → is_less c d a b ≡ false → n < a → ((c == n) && t) ≡ false
after_other a b c d n t order less = rw (let no : (c == n) ≡ false = grind (arith, common_steps) in no) refl

object_rises : (a b c d : ℕ) → is_less c d a b ≡ false → (a ≡ c → ⊥) → a < c
object_rises a b c d order other = grind (arith, common_steps)

module _ (ranges : List ObjectRange) where
  -- with one more end
  raise_next : (ends new : List ℕ) (i : ℕ) → AreRaised ranges ends i → length new ≡ length ends → ((k : ℕ) → k ≢ i → get_or new k 0 ≡ get_or ends k 0) → IsHighest ranges i (get_or new i 0) → AreRaised ranges new (i + 1)
  raise_next ends new i so_far long others here = record {
    long = long ∙ so_far.long;
    raised = λ k within low. ⊎_elim
        (λ same. subst (λ n. IsHighest ranges n (get_or new n 0)) (sym same) here)
        (λ other. subst (IsHighest ranges k) (sym (others k other)) (so_far.raised k within (omega (arith, low, other))))
        (cases_eq k i);
    own = λ k d within past. others k (omega (arith, past)) ∙ so_far.own k d within (omega (arith, past));
  }

  lower_next : (ends new : List ℕ) (j i : ℕ) → j + 1 ≡ i → AreLowered ranges ends (i + 1) → length new ≡ length ends → ((k : ℕ) → k ≢ j → get_or new k 0 ≡ get_or ends k 0) → IsLeast ranges j (get_or new j 0) → AreLowered ranges new i
  lower_next ends new j i next so_far long others here = record {
    long = long ∙ so_far.long;
    lowered = λ k within past. ⊎_elim
        (λ same. subst (λ n. IsLeast ranges n (get_or new n 0)) (sym same) here)
        (λ other. subst (IsLeast ranges k) (sym (others k other)) (so_far.lowered k within (omega (arith, past, other, next))))
        (cases_eq k j);
    own = λ k d within low. others k (omega (arith, low, next)) ∙ so_far.own k d within (omega (arith, low));
  }

  -- a range j and the next one i
  module _ (ends : List ℕ) (j i : ℕ) (d : ObjectRange) (next : j + 1 ≡ i) (below : i < length ranges) where
    neighbours : AreInOrder ranges → (e : ObjectRange) → ((get_or ranges j d).object.0 ≡ (get_or ranges i d).object.0 → ⊥) → (get_or ranges j e).object.0 < (get_or ranges i e).object.0
    neighbours order e other =
        let a : ObjectRange = get_or ranges j e in
        let b : ObjectRange = get_or ranges i e in
        object_rises a.object.0 a.range.low b.object.0 b.range.low (in_order ranges order j i e (omega (arith, next)) below)
        (λ same. other (ap (λ (x : ObjectRange). x.object.0) (get_or_default ranges j d e (omega (arith, next, below))) ∙ same ∙ ap (λ (x : ObjectRange). x.object.0) (get_or_default ranges i e d below)))

    -- the tests of the front with the i-th, and of the rest with the j-th
    front_more : (p : ObjectRange → Bool) (e : ObjectRange) (b : Bool) → list_any p (take i ranges) ≡ b → list_any p (take (i + 1) ranges) ≡ (b || p (get_or ranges i e))
    front_more p e b front = list_any_more p ranges i e below ∙ ap (λ (t : Bool). t || p (get_or ranges i e)) front

    rest_more : (p : ObjectRange → Bool) (e : ObjectRange) (b : Bool) → list_any p (drop i ranges) ≡ b → list_any p (drop j ranges) ≡ (p (get_or ranges j e) || b)
    rest_more p e b rest = ap (list_any p) (drop_more ranges j e (omega (arith, next, below))) ∙ ap (λ k. p (get_or ranges j e) || list_any p (drop k ranges)) next ∙ ap (λ (t : Bool). p (get_or ranges j e) || t) rest

    pub raised_same : AreRaised ranges ends i → (get_or ranges j d).object.0 ≡ (get_or ranges i d).object.0 → AreRaised ranges (set ends i (max (get_or ends i 0) (get_or ends j 0))) (i + 1)
    raised_same so_far same =
        let end : ℕ = max (get_or ends i 0) (get_or ends j 0) in
        let stored : get_or (set ends i end) i 0 ≡ end = get_or-set_same ends i end 0 (omega (arith, so_far.long, below)) in
        raise_next ends (set ends i end) i so_far (length-set ends i end) (λ k other. get_or-set_other ends i k end 0 other)
        (λ place e.
        let x : ObjectRange = get_or ranges i e in
        let object : (get_or ranges j e).object.0 ≡ x.object.0 =
        ap (λ (x : ObjectRange). x.object.0) (get_or_default ranges j e d (omega (arith, next, below))) ∙ same ∙ ap (λ (x : ObjectRange). x.object.0) (get_or_default ranges i d e below) in
        let before : list_any (ends_after x.object.0 place) (take i ranges) ≡ nat_lt place (get_or ends j 0) =
        ap (λ n. list_any (ends_after n place) (take i ranges)) (sym object) ∙ ap (λ n. list_any (ends_after (get_or ranges j e).object.0 place) (take n ranges)) (sym next)
        ∙ sym (so_far.raised j (omega (arith, next, below)) (omega (arith, next)) place e) in
        ap (nat_lt place) stored ∙ ap (λ n. nat_lt place (max n (get_or ends j 0))) (so_far.own i e below (omega arith))
        ∙ after_max x.object.0 place x.range.high (get_or ends j 0) ∙ sym (front_more (ends_after x.object.0 place) e (nat_lt place (get_or ends j 0)) before))

    pub raised_other : AreRaised ranges ends i → AreInOrder ranges → ((get_or ranges j d).object.0 ≡ (get_or ranges i d).object.0 → ⊥) → AreRaised ranges ends (i + 1)
    raised_other so_far order other =
        raise_next ends ends i so_far refl (λ k apart. refl)
        (λ place e.
        let x : ObjectRange = get_or ranges i e in
        let p : ObjectRange → Bool = ends_after x.object.0 place in
        let none : list_any p (take i ranges) ≡ false = list_any_none p (take i ranges) (all_taken (λ y. p y ≡ false) ranges i (omega (arith, below)) (λ k f low before.
        let a : ObjectRange = get_or ranges k e in
        let b : ObjectRange = get_or ranges j e in
        ap p (get_or_default ranges k f e (omega (arith, before, below)))
        ∙ before_other a.object.0 a.range.low b.object.0 b.range.low x.object.0 (nat_lt place a.range.high) (in_order ranges order k j e (omega (arith, before, next)) (omega (arith, next, below))) (neighbours order e other))) in
        ap (nat_lt place) (so_far.own i e below (omega arith)) ∙ after_own x.object.0 place x.range.high ∙ sym (front_more p e false none))

    pub lowered_same : AreLowered ranges ends (i + 1) → (get_or ranges j d).object.0 ≡ (get_or ranges i d).object.0 → AreLowered ranges (set ends j (min (get_or ends j 0) (get_or ends i 0))) i
    lowered_same so_far same =
        let end : ℕ = min (get_or ends j 0) (get_or ends i 0) in
        let stored : get_or (set ends j end) j 0 ≡ end = get_or-set_same ends j end 0 (omega (arith, so_far.long, below, next)) in
        lower_next ends (set ends j end) j i next so_far (length-set ends j end) (λ k other. get_or-set_other ends j k end 0 other)
        (λ place e.
        let x : ObjectRange = get_or ranges j e in
        let object : (get_or ranges i e).object.0 ≡ x.object.0 =
        ap (λ (x : ObjectRange). x.object.0) (get_or_default ranges i e d below) ∙ sym same ∙ ap (λ (x : ObjectRange). x.object.0) (get_or_default ranges j d e (omega (arith, next, below))) in
        let after : list_any (ends_by x.object.0 place) (drop i ranges) ≡ nat_le (get_or ends i 0) place =
        ap (λ n. list_any (ends_by n place) (drop i ranges)) (sym object) ∙ sym (so_far.lowered i below (omega arith) place e) in
        ap (λ n. nat_le n place) stored ∙ ap (λ n. nat_le (min n (get_or ends i 0)) place) (so_far.own j e (omega (arith, next, below)) (omega (arith, next)))
        ∙ by_min x.object.0 place x.range.high (get_or ends i 0) ∙ sym (rest_more (ends_by x.object.0 place) e (nat_le (get_or ends i 0) place) after))

    pub lowered_other : AreLowered ranges ends (i + 1) → AreInOrder ranges → ((get_or ranges j d).object.0 ≡ (get_or ranges i d).object.0 → ⊥) → AreLowered ranges ends i
    lowered_other so_far order other =
        lower_next ends ends j i next so_far refl (λ k apart. refl)
        (λ place e.
        let x : ObjectRange = get_or ranges j e in
        let p : ObjectRange → Bool = ends_by x.object.0 place in
        let none : list_any p (drop i ranges) ≡ false = list_any_none p (drop i ranges) (all_dropped (λ y. p y ≡ false) ranges i (λ k f low within.
        let a : ObjectRange = get_or ranges i e in
        let b : ObjectRange = get_or ranges k e in
        ap p (get_or_default ranges k f e within)
        ∙ after_other a.object.0 a.range.low b.object.0 b.range.low x.object.0 (nat_le b.range.high place) (in_order ranges order i k e low within) (neighbours order e other))) in
        ap (λ n. nat_le n place) (so_far.own j e (omega (arith, next, below)) (omega (arith, next))) ∙ by_own x.object.0 place x.range.high ∙ sym (rest_more p e false none))
