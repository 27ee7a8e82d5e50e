-- The list of objects with their lengths says the length of each object.
use Rattle.std.proofs.Common.{◌≡◌, ◌≢◌, ℕ, zero, suc, ◌+◌, ◌<◌, ◌≤◌, ◌⊎◌, inl, inr, Bool, true, false, cond, List, [], ◌∷◌, ◌++◌, length, map, take, drop, get_or, Option, Some, None, refl, ap, sym, subst, ◌∙◌, arith, append-nil, append_assoc}
use Rattle.std.specs.Prelude.{◌==◌, IfSome, option_map}
use Rattle.std.specs.Ordering.{nat_cmp}
use Rattle.std.specs.Cmp.{unsigned_tied}
use Rattle.std.specs.FinMap as finite
use Rattle.std.specs.FinMap.{FinMap, find, get-entries}
use Rattle.std.proofs.lemmas.Bool.{cases_Bool, cases_eq, eq-eqb, eqb-true, ne_eqb}
use Rattle.std.proofs.lemmas.List.{take_more, take-append-drop}
use Rattle.base.specs.declared.names.ObjectId.{ObjectId}
use Rattle.base.specs.formats.Limits.{max_length, object_count}
use Rattle.tree_blocks.specs.ListedObjects.{AreWithin, listed}
use Rattle.tree_blocks.specs.Sources.{object_length}
use Rattle.tree_blocks.proofs.ListedObjects.{listed_at, listed_below, listed_below-all}
use Rattle.trees.specs.EntryLists.{AreRising}
use Rattle.trees.proofs.EntryLists.{rising_more, rising_push}
use Rattle.object_views.specs.Zeros.{HasListedLengths, length_among, length_at}
use Rattle.object_views.specs.declared.zeros.ZeroObjects.{ZeroObjects}

-- a list whose numbers rise ends after each of them
rising_ends : (start end : ℕ) (list : List (ObjectId × ℕ)) → AreRising start list end → start ≤ end
rising_ends start end [] rising = rising
rising_ends start end (o ∷ others) rising = let more = rising_ends (o.0.0 + 1) end others rising.2 in omega (arith, rising.0, more)

-- an object in the midst of such a list
module _ (end : ℕ) (o : ObjectId × ℕ) (after : List (ObjectId × ℕ)) where
  past_start : (start : ℕ) (before : List (ObjectId × ℕ)) → AreRising start (before ++ o ∷ after) end → start ≤ o.0.0
  past_start start [] rising = rising.0
  past_start start (x ∷ before) rising = let more = past_start (x.0.0 + 1) before rising.2 in omega (arith, rising.0, more)

  below_end : (start : ℕ) (before : List (ObjectId × ℕ)) → AreRising start (before ++ o ∷ after) end → o.0.0 < end
  below_end start [] rising = let more = rising_ends (o.0.0 + 1) end after rising.2 in omega (arith, more)
  below_end start (x ∷ before) rising = below_end (x.0.0 + 1) before rising.2

  not_before : (start : ℕ) (before : List (ObjectId × ℕ)) → AreRising start (before ++ o ∷ after) end → length_among before o.0.0 ≡ None
  not_before start [] rising = refl
  not_before start (x ∷ before) rising =
      let above = past_start (x.0.0 + 1) before rising.2 in
      rw (ne_eqb o.0.0 x.0.0 (λ same. omega (arith, above, same))) (not_before (x.0.0 + 1) before rising.2)

-- the length of an object in a list with one more at its end
among-other : (list : List (ObjectId × ℕ)) (o : ObjectId × ℕ) (n : ℕ) → n ≢ o.0.0 → length_among (list ++ o ∷ []) n ≡ length_among list n
among-other [] o n other = rw (ne_eqb n o.0.0 other) refl
among-other (x ∷ list) o n other = ap (λ (r : Option ℕ). cond (n == x.0.0) (Some x.1) r) (among-other list o n other)

among-last : (list : List (ObjectId × ℕ)) (o : ObjectId × ℕ) → length_among list o.0.0 ≡ None → length_among (list ++ o ∷ []) o.0.0 ≡ Some o.1
among-last [] o none = rw (eq-eqb o.0.0 o.0.0 refl) refl
among-last (x ∷ list) o none = go (cases_Bool (o.0.0 == x.0.0)) (among-last list o)
  where
    go : ((o.0.0 == x.0.0) ≡ true) ⊎ ((o.0.0 == x.0.0) ≡ false) → (length_among list o.0.0 ≡ None → length_among (list ++ o ∷ []) o.0.0 ≡ Some o.1)
        → length_among ((x ∷ list) ++ o ∷ []) o.0.0 ≡ Some o.1
    go (inl same) rest = absurd (let none_here : Some x.1 ≡ None = rw same at none in cc)
    go (inr other) rest = rw other (rest (rw other at none))

-- one object more, whose length is set
module _ (objects : List (ObjectId × ℕ)) (i : ℕ) (default : ObjectId × ℕ) (low : i < length objects) where
  abbrev item : ObjectId × ℕ
  item = get_or objects i default

  front : take (i + 1) objects ≡ take i objects ++ item ∷ []
  front = take_more objects i default low

  parts : objects ≡ take i objects ++ item ∷ drop (i + 1) objects
  parts =
      sym (take-append-drop (i + 1) objects) ∙ ap (λ (l : List (ObjectId × ℕ)). l ++ drop (i + 1) objects) front ∙ append_assoc (take i objects) (item ∷ []) (drop (i + 1) objects)

  module _ (rising : AreRising 0 objects object_count) where
    apart : AreRising 0 (take i objects ++ item ∷ drop (i + 1) objects) object_count
    apart = subst (λ (l : List (ObjectId × ℕ)). AreRising 0 l object_count) parts rising

    pub in_range : item.0.0 < object_count
    in_range = below_end object_count item (drop (i + 1) objects) 0 (take i objects) apart

    pub lengths_more : (old new : ZeroObjects) → HasListedLengths (take i objects) old → length_at new item.0.0 ≡ Some item.1 → ((n : ℕ) → n ≢ item.0.0 → length_at new n ≡ length_at old n)
        → HasListedLengths (take (i + 1) objects) new
    lengths_more old new before here others n = go (cases_eq n item.0.0) ∙ ap (λ (l : List (ObjectId × ℕ)). length_among l n) (sym front)
      where
        go : (n ≡ item.0.0) ⊎ (n ≢ item.0.0) → length_at new n ≡ length_among (take i objects ++ item ∷ []) n
        go (inl same) = rw same (here ∙ sym (among-last (take i objects) item (not_before object_count item (drop (i + 1) objects) 0 (take i objects) apart)))
        go (inr other) = others n other ∙ before n ∙ sym (among-other (take i objects) item n other)

-- the list of some objects has the length of each
abbrev line_of : ℕ × List ℕ → ObjectId × ℕ
line_of e = (record { 0 = e.0 }, length e.1)

pub among-listed : (objects : FinMap nat_cmp (List ℕ)) (n : ℕ) → length_among (listed objects) n ≡ option_map length (finite.get objects n)
among-listed objects n = go (finite.entries objects) ∙ ap (option_map length) (sym (get-entries objects n))
  where
    chosen : (b : Bool) (x y : Option (List ℕ)) → cond b (option_map length x) (option_map length y) ≡ option_map length (cond b x y)
    chosen true x y = refl
    chosen false x y = refl

    go : (es : List (ℕ × List ℕ)) → length_among (map line_of es) n ≡ option_map length (find nat_cmp n es)
    go [] = refl
    go (e ∷ es) =
        ap (λ (r : Option ℕ). cond (n == e.0) (Some (length e.1)) r) (go es) ∙ chosen (n == e.0) (Some e.1) (find nat_cmp n es)
        ∙ ap (λ (b : Bool). option_map length (cond b (Some e.1) (find nat_cmp n es))) (sym (unsigned_tied n e.0))

-- the length that a rising list gives an object lies within the limits
among_within : (start n : ℕ) (list : List (ObjectId × ℕ)) → AreRising start list object_count → IfSome (length_among list n) (λ (size : ℕ). (n < object_count) × (size ≤ max_length))
among_within start n [] rising = tt
among_within start n (o ∷ others) rising = go (cases_Bool (n == o.0.0)) (among_within (o.0.0 + 1) n others rising.2)
  where
    go : ((n == o.0.0) ≡ true) ⊎ ((n == o.0.0) ≡ false) → IfSome (length_among others n) (λ (size : ℕ). (n < object_count) × (size ≤ max_length))
        → IfSome (length_among (o ∷ others) n) (λ (size : ℕ). (n < object_count) × (size ≤ max_length))
    go (inl same) rest =
        let more = rising_ends (o.0.0 + 1) object_count others rising.2 in
        let is = eqb-true n o.0.0 same in
        rw same (omega (arith, more, is), rising.1)
    go (inr other) rest = rw other rest

-- objects of the same lengths lie within the limits, too, and have the same list
of_length : (n : ℕ) (o : Option (List ℕ)) (size : Option ℕ) → option_map length o ≡ size → IfSome size (λ (s : ℕ). (n < object_count) × (s ≤ max_length)) → IfSome o (λ bytes. (n < object_count) × (length bytes ≤ max_length))
of_length n None size is within = tt
of_length n (Some bytes) size is within = subst (λ (s : Option ℕ). IfSome s (λ (k : ℕ). (n < object_count) × (k ≤ max_length))) (sym is) within

by_length : (n : ℕ) (o : Option (List ℕ)) → IfSome o (λ bytes. (n < object_count) × (length bytes ≤ max_length)) → IfSome (option_map length o) (λ (s : ℕ). (n < object_count) × (s ≤ max_length))
by_length n None within = tt
by_length n (Some bytes) within = within

module _ (objects others : FinMap nat_cmp (List ℕ)) (same : (n : ℕ) → option_map length (finite.get objects n) ≡ option_map length (finite.get others n)) (within : AreWithin objects) where
  within_too : AreWithin others
  within_too n = of_length n (finite.get others n) (option_map length (finite.get objects n)) (sym (same n)) (by_length n (finite.get objects n) (within n))

  below-same : (n : ℕ) → listed_below objects n ≡ listed_below others n
  unfolding listed_below
  below-same zero = refl
  below-same (suc n) =
      ap (λ (l : List (ObjectId × ℕ)). l ++ listed_at n (option_map length (finite.get objects n))) (below-same n)
      ∙ ap (λ (o : Option ℕ). listed_below others n ++ listed_at n o) (same n)

  pub listed-same : listed objects ≡ listed others
  listed-same = sym (listed_below-all objects within) ∙ below-same object_count ∙ listed_below-all others within_too

-- objects of the lengths of a rising list lie within the limits
pub listed_within : (objects : FinMap nat_cmp (List ℕ)) (entries : List (ObjectId × ℕ)) → AreRising 0 entries object_count → ((n : ℕ) → object_length objects n ≡ length_among entries n) → AreWithin objects
listed_within objects entries rising has n = of_length n (finite.get objects n) (length_among entries n) (has n) (among_within 0 n entries rising)

-- the list of objects within the limits rises
pub listed_rises : (objects : FinMap nat_cmp (List ℕ)) → AreWithin objects → AreRising 0 (listed objects) object_count
unfolding listed_below
listed_rises objects within = subst (λ (l : List (ObjectId × ℕ)). AreRising 0 l object_count) (listed_below-all objects within) (below object_count)
  where
    next : (n : ℕ) (list : List (ObjectId × ℕ)) (o : Option (List ℕ)) → AreRising 0 list n → IfSome o (λ bytes. (n < object_count) × (length bytes ≤ max_length)) → AreRising 0 (list ++ listed_at n (option_map length o)) (n + 1)
    next n list None rising fits = subst (λ (l : List (ObjectId × ℕ)). AreRising 0 l (n + 1)) (sym (append-nil list)) (rising_more 0 n (n + 1) list rising (omega arith))
    next n list (Some bytes) rising fits = rising_push 0 n (length bytes) list rising fits.1

    below : (n : ℕ) → AreRising 0 (listed_below objects n) n
    below zero = omega arith
    below (suc n) =
        subst (λ (k : ℕ). AreRising 0 (listed_below objects n ++ listed_at n (option_map length (finite.get objects n))) k) (let e : n + 1 ≡ suc n = omega arith in e)
        (next n (listed_below objects n) (finite.get objects n) (below n) (within n))
