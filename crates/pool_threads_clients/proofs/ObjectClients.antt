-- What a list of objects has: those that are there, rising, and none left out.
use Rattle.std.proofs.Common.{◌≡◌, ◌<◌, ◌≤◌, ◌+◌, ◌-◌, ◌++◌, ◌∷◌, ℕ, zero, suc, [], List, ap, arith, length, refl, subst, sym, ◌∙◌}
use Rattle.std.specs.Prelude.{Bool, None, Option, Some, false, nat_le, slice_get, take, true}
use Rattle.std.specs.List.{range_with_len}
use Rattle.std.proofs.lemmas.Bool.{leb-false, leb-true}
use Rattle.base.specs.declared.names.ObjectId.{ObjectId}
use Rattle.base.specs.formats.Limits.{object_count}
use Rattle.base.specs.history.Contents.{Contents, length_of}
use Rattle.base.proofs.common.KeptLists.{Some-injective, at_take, none_at}
use Rattle.base.proofs.formats.Pieces.{take-short}
use Rattle.pool_threads.specs.Objects.{object_at, objects_among, objects_from}

module _ (c : Contents) where
  abbrev among : ℕ → ℕ → List (ObjectId × ℕ)
  among from k = objects_among c (range_with_len from k)

  -- the object is there, with this length, and its number is no lower
  abbrev IsThere : ℕ → ObjectId × ℕ → Type 0
  IsThere from x = (from ≤ x.0.0) × (length_of c x.0.0 ≡ Some x.1)

  there : (k from i : ℕ) (x : ObjectId × ℕ) → slice_get (among from k) i ≡ Some x → IsThere from x
  there zero from i x at = absurd (none_at i x at)
  there (suc k) from i x at = by (length_of c from) refl i at (λ j h. there k (from + 1) j x h)
    where
      by : (o : Option ℕ) → length_of c from ≡ o → (j : ℕ) → slice_get (object_at from o ++ among (from + 1) k) j ≡ Some x → ((h : ℕ) → slice_get (among (from + 1) k) h ≡ Some x → IsThere (from + 1) x) → IsThere from x
      by None is j at rest = let r = rest j at in let low : from + 1 ≤ x.0.0 = r.0 in (omega arith, r.1)
      by (Some size) is zero at rest =
          let one : ObjectId × ℕ = (record { 0 = from }, size) in
          subst (IsThere from) (Some-injective {x = one} at) (let same : from ≡ from = refl in omega arith, is)
      by (Some size) is (suc j) at rest = let r = rest j at in let low : from + 1 ≤ x.0.0 = r.0 in (omega arith, r.1)

  -- an object that is there has a place among those of its numbers
  all_listed : (k from : ℕ) (n : ObjectId) (size : ℕ) → from ≤ n.0 → n.0 < from + k → length_of c n.0 ≡ Some size → (i : ℕ) × (slice_get (among from k) i ≡ Some (n, size))
  all_listed zero from n size low high is = absurd (omega arith)
  all_listed (suc k) from n size low high is = by (nat_le (from + 1) n.0) refl (λ more. all_listed k (from + 1) n size more (omega arith) is)
    where
      Place : Type 0
      Place = (i : ℕ) × (slice_get (among from (suc k)) i ≡ Some (n, size))

      later : (o : Option ℕ) → length_of c from ≡ o → (i : ℕ) × (slice_get (among (from + 1) k) i ≡ Some (n, size)) → (i : ℕ) × (slice_get (object_at from o ++ among (from + 1) k) i ≡ Some (n, size))
      later None absent found = found
      later (Some other) present found = (suc found.0, found.1)

      by : (b : Bool) → nat_le (from + 1) n.0 ≡ b → (from + 1 ≤ n.0 → (i : ℕ) × (slice_get (among (from + 1) k) i ≡ Some (n, size))) → (i : ℕ) × (slice_get (among from (suc k)) i ≡ Some (n, size))
      by true more rest = later (length_of c from) refl (rest (leb-true (from + 1) n.0 more))
      by false less rest =
          let below : n.0 < from + 1 = leb-false (from + 1) n.0 less in
          let same : from ≡ n.0 = omega arith in
          let found : length_of c from ≡ Some size = ap (λ m. length_of c m) same ∙ is in
          (zero, ap (λ o. slice_get (object_at from o ++ among (from + 1) k) zero) found ∙ ap (λ m. Some (let one : ObjectId × ℕ = (record { 0 = m }, size) in one)) same)

  rising : (k from i j : ℕ) (x y : ObjectId × ℕ) → i < j → slice_get (among from k) i ≡ Some x → slice_get (among from k) j ≡ Some y → x.0.0 < y.0.0
  rising zero from i j x y below at_i at_j = absurd (none_at i x at_i)
  rising (suc k) from i j x y below at_i at_j = by (length_of c from) i j below at_i at_j (λ g h. rising k (from + 1) g h x y)
    where
      by : (o : Option ℕ) (g h : ℕ) → g < h → slice_get (object_at from o ++ among (from + 1) k) g ≡ Some x → slice_get (object_at from o ++ among (from + 1) k) h ≡ Some y
          → ((a b : ℕ) → a < b → slice_get (among (from + 1) k) a ≡ Some x → slice_get (among (from + 1) k) b ≡ Some y → x.0.0 < y.0.0) → x.0.0 < y.0.0
      by None g h below at_g at_h rest = rest g h below at_g at_h
      by (Some size) g zero below at_g at_h rest = absurd (omega arith)
      by (Some size) zero (suc h) below at_g at_h rest =
          let one : ObjectId × ℕ = (record { 0 = from }, size) in
          let first : from ≡ x.0.0 = ap (λ (z : ObjectId × ℕ). z.0.0) (Some-injective {x = one} at_g) in
          let low : from + 1 ≤ y.0.0 = (there k (from + 1) h y at_h).0 in
          omega arith
      by (Some size) (suc g) (suc h) below at_g at_h rest = rest g h (omega arith) at_g at_h

  short : {X : Type 0} (m : ℕ) (xs : List X) → length (take m xs) < m → take m xs ≡ xs
  short zero xs less = absurd (omega arith)
  short (suc m) [] less = refl
  short (suc m) (x ∷ xs) less = ap (λ l. x ∷ l) (short m xs (omega arith))

  at_front_of : {X : Type 0} (m : ℕ) (xs : List X) (i j : ℕ) (x y : X) → slice_get xs i ≡ Some x → slice_get (take m xs) j ≡ Some y → i < j → slice_get (take m xs) i ≡ Some x
  at_front_of zero xs i j x y at_i at_j below = absurd (none_at j y at_j)
  at_front_of (suc m) [] i j x y at_i at_j below = absurd (none_at i x at_i)
  at_front_of (suc m) (z ∷ xs) i zero x y at_i at_j below = absurd (omega arith)
  at_front_of (suc m) (z ∷ xs) zero (suc j) x y at_i at_j below = at_i
  at_front_of (suc m) (z ∷ xs) (suc i) (suc j) x y at_i at_j below = at_front_of m xs i j x y at_i at_j (omega arith)

  module _ (from most : ℕ) (list : List (ObjectId × ℕ)) (is : list ≡ take most (objects_from from c)) where
    among_all : (i : ℕ) (x : ObjectId × ℕ) → slice_get list i ≡ Some x → slice_get (objects_from from c) i ≡ Some x
    among_all i x at = at_take most (objects_from from c) i x (subst (λ l. slice_get l i ≡ Some x) is at)

    pub listed_there : (i : ℕ) (n : ObjectId) (size : ℕ) → slice_get list i ≡ Some (n, size) → (from ≤ n.0) × (length_of c n.0 ≡ Some size)
    listed_there i n size at = there (object_count - from) from i (n, size) (among_all i (n, size) at)

    pub few_listed : length list ≤ most
    few_listed = let few = take-short most (objects_from from c) in let same : length list ≡ length (take most (objects_from from c)) = ap length is in omega arith

    pub whole_listed : length list < most → (n : ObjectId) (size : ℕ) → from ≤ n.0 → n.0 < object_count → length_of c n.0 ≡ Some size → (i : ℕ) × (slice_get list i ≡ Some (n, size))
    whole_listed less n size low high found =
        let at = all_listed (object_count - from) from n size low (omega arith) found in
        let whole = short most (objects_from from c) (subst (λ l. length l < most) is less) in
        (at.0, subst (λ l. slice_get l at.0 ≡ Some (n, size)) (sym (is ∙ whole)) at.1)

    pub listed_rise : (i j : ℕ) (one next : ObjectId × ℕ) → i < j → slice_get list i ≡ Some one → slice_get list j ≡ Some next → one.0.0 < next.0.0
    listed_rise i j one next below at_i at_j = rising (object_count - from) from i j one next below (among_all i one at_i) (among_all j next at_j)

    pub none_left_out : (j : ℕ) (last : ObjectId × ℕ) → slice_get list j ≡ Some last → (n : ObjectId) (size : ℕ) → from ≤ n.0 → n.0 < last.0.0 → length_of c n.0 ≡ Some size → (i : ℕ) × (slice_get list i ≡ Some (n, size))
    none_left_out j last at n size low less found =
        let at_last = among_all j last at in
        let high : n.0 < from + (object_count - from) = below_last (object_count - from) from j last at_last n.0 less in
        let place = all_listed (object_count - from) from n size low high found in
        (place.0, in_front place.0 place.1 (nat_le (suc place.0) j) refl (nat_le (suc j) place.0) refl)
      where
        below_last : (k a i : ℕ) (x : ObjectId × ℕ) → slice_get (among a k) i ≡ Some x → (m : ℕ) → m < x.0.0 → m < a + k
        below_last zero a i x at m less = absurd (none_at i x at)
        below_last (suc k) a i x at m less = go (length_of c a) i at (λ h q. below_last k (a + 1) h x q m less)
          where
            go : (o : Option ℕ) (h : ℕ) → slice_get (object_at a o ++ among (a + 1) k) h ≡ Some x → ((g : ℕ) → slice_get (among (a + 1) k) g ≡ Some x → m < a + 1 + k) → m < a + suc k
            go None h q rest = let less_than : m < a + 1 + k = rest h q in omega arith
            go (Some size) zero q rest =
                let one : ObjectId × ℕ = (record { 0 = a }, size) in
                let first : a ≡ x.0.0 = ap (λ (z : ObjectId × ℕ). z.0.0) (Some-injective {x = one} q) in omega arith
            go (Some size) (suc h) q rest = let less_than : m < a + 1 + k = rest h q in omega arith

        in_front : (i : ℕ) → slice_get (objects_from from c) i ≡ Some (n, size) → (b : Bool) → nat_le (suc i) j ≡ b → (d : Bool) → nat_le (suc j) i ≡ d → slice_get list i ≡ Some (n, size)
        in_front i at_i true before d after =
            subst (λ l. slice_get l i ≡ Some (n, size)) (sym is)
            (at_front_of most (objects_from from c) i j (n, size) last at_i (subst (λ l. slice_get l j ≡ Some last) is at) (leb-true (suc i) j before))
        in_front i at_i false before true after =
            let behind : last.0.0 < n.0 = rising (object_count - from) from j i last (n, size) (leb-true (suc j) i after) (among_all j last at) at_i in
            absurd (omega arith)
        in_front i at_i false before false after =
            let one : j < suc i = leb-false (suc i) j before in
            let other : i < suc j = leb-false (suc j) i after in
            let same : i ≡ j = omega arith in
            let equal : n.0 ≡ last.0.0 = ap (λ (z : ObjectId × ℕ). z.0.0) (Some-injective {x = (n, size)} (sym at_i ∙ ap (λ k. slice_get (objects_from from c) k) same ∙ among_all j last at)) in
            absurd (omega arith)
