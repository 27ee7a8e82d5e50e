-- Elements of lists by their places: one more at the end, what a front has, what a filter keeps, and what holds of
-- each.
use Rattle.std.proofs.Common.{◌≡◌, ℕ, zero, suc, ◌+◌, ◌<◌, ◌≤◌, Bool, true, false, ◌||◌, List, [], ◌∷◌, ◌++◌, length, map, refl, ap, sym, ◌∙◌, arith, subst, ◌⊎◌, inl, inr, take, replicate, get_or}
use Rattle.std.specs.Prelude.{Option, Some, None, option_map, slice_get, filter, cond, find, All}
use Rattle.std.specs.List.{list_any, list_all, flat_map, enumerate_from, range_with_len}
use Rattle.std.proofs.lemmas.Bool.{or_right, or_from, and_parts, and_from, or_parts}
use Rattle.std.proofs.lemmas.List.Folds.{list_any-append}
use Rattle.std.proofs.lemmas.List.Elements.{All-head, All-tail, All-nil, All-cons}
use Rattle.std.proofs.Math.Bool.{or-false}

-- what two options are of that are the same
pub Some-injective : {A : Type 0} {x y : A} → Some x ≡ Some y → x ≡ y
Some-injective {A} {x} {y} e = ap (λ o. elim o as (λ _. A) [ None ↦ x | Some z ↦ z ]) e

-- what is mapped comes from something
pub mapped : {A B : Type 0} (f : A → B) (o : Option A) (y : B) → option_map f o ≡ Some y → (x : A) × (o ≡ Some x) × (f x ≡ y)
mapped f None y is = absurd (let no_way : None ≡ Some y = is in cc)
mapped f (Some x) y is = let same : f x ≡ y = cc in (x, refl, same)

pub none_at : {A : Type 0} (i : ℕ) (x : A) → slice_get [] i ≡ Some x → ⊥
none_at i x at = let no_way : None ≡ Some x = at in cc

-- what is at a place stays there
pub at_old : {A : Type 0} (xs : List A) (x y : A) (i : ℕ) → slice_get xs i ≡ Some y → slice_get (xs ++ x ∷ []) i ≡ Some y
at_old [] x y i at = absurd (none_at i y at)
at_old (z ∷ xs) x y zero at = at
at_old (z ∷ xs) x y (suc i) at = at_old xs x y i at

pub at_front : {A : Type 0} (xs ys : List A) (i : ℕ) (x : A) → slice_get xs i ≡ Some x → slice_get (xs ++ ys) i ≡ Some x
at_front [] ys i x at = absurd (none_at i x at)
at_front (z ∷ xs) ys zero x at = at
at_front (z ∷ xs) ys (suc i) x at = at_front xs ys i x at

pub at_last : {A : Type 0} (xs : List A) (x : A) → slice_get (xs ++ x ∷ []) (length xs) ≡ Some x
at_last [] x = refl
at_last (z ∷ xs) x = at_last xs x

-- each place below the length has an element
pub at_within : {A : Type 0} (xs : List A) (i : ℕ) → i < length xs → (x : A) × (slice_get xs i ≡ Some x)
at_within [] i below = absurd (omega arith)
at_within (z ∷ xs) zero below = (z, refl)
at_within (z ∷ xs) (suc i) below = at_within xs i (omega arith)

-- an element that a filter keeps passes it, and is one of the list
pub at_filter : {A : Type 0} (p : A → Bool) (xs : List A) (i : ℕ) (x : A) → slice_get (filter p xs) i ≡ Some x → (j : ℕ) × (slice_get xs j ≡ Some x) × (p x ≡ true)
at_filter p [] i x at = absurd (none_at i x at)
at_filter {A} p (y ∷ ys) i x at = go (p y) refl i (λ k at_k. at_filter p ys k x at_k) at
  where
    go : (b : Bool) → p y ≡ b → (k : ℕ) → ((l : ℕ) → slice_get (filter p ys) l ≡ Some x → (j : ℕ) × (slice_get ys j ≡ Some x) × (p x ≡ true))
        → slice_get (cond b (y ∷ filter p ys) (filter p ys)) k ≡ Some x → (j : ℕ) × (slice_get (y ∷ ys) j ≡ Some x) × (p x ≡ true)
    go true is zero rest at_k = (zero, at_k, ap p (sym (Some-injective at_k)) ∙ is)
    go true is (suc k) rest at_k = let found : (j : ℕ) × (slice_get ys j ≡ Some x) × (p x ≡ true) = rest k at_k in (suc found.0, found.1, found.2)
    go false is k rest at_k = let found : (j : ℕ) × (slice_get ys j ≡ Some x) × (p x ≡ true) = rest k at_k in (suc found.0, found.1, found.2)

-- two that a filter keeps stand in the list in the same order
pub pair_filter : {A : Type 0} (p : A → Bool) (xs : List A) (i j : ℕ) (x y : A) → i < j → slice_get (filter p xs) i ≡ Some x → slice_get (filter p xs) j ≡ Some y
    → (k l : ℕ) × (k < l) × (slice_get xs k ≡ Some x) × (slice_get xs l ≡ Some y)
pair_filter p [] i j x y below at_i at_j = absurd (none_at i x at_i)
pair_filter {A} p (z ∷ zs) i j x y below at_i at_j = go (p z) i j (λ m n less at_m at_n. pair_filter p zs m n x y less at_m at_n) below at_i at_j
  where
    go : (b : Bool) (m n : ℕ) → ((m n : ℕ) → m < n → slice_get (filter p zs) m ≡ Some x → slice_get (filter p zs) n ≡ Some y → (k l : ℕ) × (k < l) × (slice_get zs k ≡ Some x) × (slice_get zs l ≡ Some y))
        → m < n → slice_get (cond b (z ∷ filter p zs) (filter p zs)) m ≡ Some x → slice_get (cond b (z ∷ filter p zs) (filter p zs)) n ≡ Some y
        → (k l : ℕ) × (k < l) × (slice_get (z ∷ zs) k ≡ Some x) × (slice_get (z ∷ zs) l ≡ Some y)
    go true m zero rest less at_m at_n = absurd (omega arith)
    go true zero (suc n) rest less at_m at_n = let found : (l : ℕ) × (slice_get zs l ≡ Some y) × (p y ≡ true) = at_filter p zs n y at_n in (zero, suc found.0, omega arith, at_m, found.1)
    go true (suc m) (suc n) rest less at_m at_n =
        let found : (k l : ℕ) × (k < l) × (slice_get zs k ≡ Some x) × (slice_get zs l ≡ Some y) = rest m n (omega arith) at_m at_n in
        (suc found.0, suc found.1, let h : found.0 < found.1 = found.2 in omega arith, found.3, found.4)
    go false m n rest less at_m at_n =
        let found : (k l : ℕ) × (k < l) × (slice_get zs k ≡ Some x) × (slice_get zs l ≡ Some y) = rest m n less at_m at_n in
        (suc found.0, suc found.1, let h : found.0 < found.1 = found.2 in omega arith, found.3, found.4)

-- an element that passes a test settles it
pub any_at : {A : Type 0} (p : A → Bool) (xs : List A) (i : ℕ) (x : A) → slice_get xs i ≡ Some x → p x ≡ true → list_any p xs ≡ true
any_at p [] i x at passes = absurd (none_at i x at)
any_at p (y ∷ ys) zero x at passes = ap (λ b. b || list_any p ys) (ap p (Some-injective at) ∙ passes)
any_at p (y ∷ ys) (suc i) x at passes = or_right (p y) (list_any p ys) (any_at p ys i x at passes)

-- where none passes a test, each fails it
pub none_any : {A : Type 0} (p : A → Bool) (xs : List A) (i : ℕ) (x : A) → list_any p xs ≡ false → slice_get xs i ≡ Some x → p x ≡ false
none_any p [] i x none at = absurd (none_at i x at)
none_any p (y ∷ ys) zero x none at = ap p (sym (Some-injective at)) ∙ (or_parts (p y) (list_any p ys) none).0
none_any p (y ∷ ys) (suc i) x none at = none_any p ys i x (or_parts (p y) (list_any p ys) none).1 at

-- where each fails a test, none passes it
pub any_none : {A : Type 0} (p : A → Bool) (xs : List A) → ((i : ℕ) (x : A) → slice_get xs i ≡ Some x → p x ≡ false) → list_any p xs ≡ false
any_none p [] each = refl
any_none p (y ∷ ys) each = or_from (p y) (list_any p ys) (each zero y refl) (any_none p ys (λ i x at. each (suc i) x at))

-- where one passes a test, it is found
pub any_found : {A : Type 0} (p : A → Bool) (xs : List A) → list_any p xs ≡ true → (i : ℕ) × (x : A) × (slice_get xs i ≡ Some x) × (p x ≡ true)
any_found p [] is = absurd (let no_way : false ≡ true = is in cc)
any_found {A} p (y ∷ ys) is = go (p y) refl is (λ h. any_found p ys h)
  where
    go : (b : Bool) → p y ≡ b → (b || list_any p ys) ≡ true → (list_any p ys ≡ true → (i : ℕ) × (x : A) × (slice_get ys i ≡ Some x) × (p x ≡ true)) → (i : ℕ) × (x : A) × (slice_get (y ∷ ys) i ≡ Some x) × (p x ≡ true)
    go true passes h rest = (zero, y, refl, passes)
    go false fails h rest = let found : (i : ℕ) × (x : A) × (slice_get ys i ≡ Some x) × (p x ≡ true) = rest h in (suc found.0, found.1, found.2, found.3)

-- a test of what is made of each element
pub any_map : {A B : Type 0} (p : B → Bool) (f : A → B) (xs : List A) → list_any p (map f xs) ≡ list_any (λ x. p (f x)) xs
any_map p f [] = refl
any_map p f (x ∷ xs) = ap (λ b. p (f x) || b) (any_map p f xs)

-- two tests that agree on a list's elements keep the same
pub filter_same : {A : Type 0} (p q : A → Bool) (xs : List A) → ((i : ℕ) (x : A) → slice_get xs i ≡ Some x → p x ≡ q x) → filter p xs ≡ filter q xs
filter_same p q [] agree = refl
filter_same {A} p q (x ∷ xs) agree = (λ k. cond (agree zero x refl k) (x ∷ filter_same p q xs (λ i y at. agree (suc i) y at) k) (filter_same p q xs (λ i y at. agree (suc i) y at) k))

-- a test of which one element more is asked
pub any_push : {A : Type 0} (p : A → Bool) (xs : List A) (x : A) → list_any p (xs ++ x ∷ []) ≡ (list_any p xs || p x)
any_push p xs x = list_any-append p xs (x ∷ []) ∙ ap (λ b. list_any p xs || b) (or-false (p x))

-- an element that passes a test in a list is one of what is found
pub found_at : {A : Type 0} (p : A → Bool) (xs : List A) (x : A) → find p xs ≡ Some x → (i : ℕ) × (slice_get xs i ≡ Some x) × (p x ≡ true) × ((j : ℕ) (y : A) → j < i → slice_get xs j ≡ Some y → p y ≡ false)
found_at p [] x at = absurd (none_at zero x at)
found_at {A} p (y ∷ ys) x at = go (p y) refl (λ h. found_at p ys x h) at
  where
    go : (b : Bool) → p y ≡ b → (find p ys ≡ Some x → (i : ℕ) × (slice_get ys i ≡ Some x) × (p x ≡ true) × ((j : ℕ) (z : A) → j < i → slice_get ys j ≡ Some z → p z ≡ false))
        → cond b (Some y) (find p ys) ≡ Some x → (i : ℕ) × (slice_get (y ∷ ys) i ≡ Some x) × (p x ≡ true) × ((j : ℕ) (z : A) → j < i → slice_get (y ∷ ys) j ≡ Some z → p z ≡ false)
    go true is rest h = (zero, h, ap p (sym (Some-injective h)) ∙ is, λ j z below at_j. absurd (omega arith))
    go false is rest h =
        let found : (i : ℕ) × (slice_get ys i ≡ Some x) × (p x ≡ true) × ((j : ℕ) (z : A) → j < i → slice_get ys j ≡ Some z → p z ≡ false) = rest h in
        (suc found.0, found.1, found.2, before found.0 found.3)
      where
        before : (i : ℕ) → ((j : ℕ) (z : A) → j < i → slice_get ys j ≡ Some z → p z ≡ false) → (j : ℕ) (z : A) → j < suc i → slice_get (y ∷ ys) j ≡ Some z → p z ≡ false
        before i each zero z below at_j = ap p (sym (Some-injective at_j)) ∙ is
        before i each (suc j) z below at_j = each j z (omega arith) at_j

-- where none is found, each fails
pub not_found : {A : Type 0} (p : A → Bool) (xs : List A) → find p xs ≡ None → (i : ℕ) (x : A) → slice_get xs i ≡ Some x → p x ≡ false
not_found p [] none i x at = absurd (none_at i x at)
not_found {A} p (y ∷ ys) none i x at = go (p y) refl (λ h k at_k. not_found p ys h k x at_k) none i at
  where
    go : (b : Bool) → p y ≡ b → (find p ys ≡ None → (k : ℕ) → slice_get ys k ≡ Some x → p x ≡ false) → cond b (Some y) (find p ys) ≡ None → (k : ℕ) → slice_get (y ∷ ys) k ≡ Some x → p x ≡ false
    go true is rest h k at_k = absurd (let no_way : Some y ≡ None = h in cc)
    go false is rest h zero at_k = ap p (sym (Some-injective at_k)) ∙ is
    go false is rest h (suc k) at_k = rest h k at_k

-- an element that passes is kept
pub filter_at : {A : Type 0} (p : A → Bool) (xs : List A) (i : ℕ) (x : A) → slice_get xs i ≡ Some x → p x ≡ true → (j : ℕ) × (slice_get (filter p xs) j ≡ Some x)
filter_at p [] i x at passes = absurd (none_at i x at)
filter_at {A} p (y ∷ ys) i x at passes = go (p y) refl (λ k at_k. filter_at p ys k x at_k passes) i at
  where
    go : (b : Bool) → p y ≡ b → ((k : ℕ) → slice_get ys k ≡ Some x → (j : ℕ) × (slice_get (filter p ys) j ≡ Some x)) → (k : ℕ) → slice_get (y ∷ ys) k ≡ Some x
        → (j : ℕ) × (slice_get (cond b (y ∷ filter p ys) (filter p ys)) j ≡ Some x)
    go true is rest zero at_k = (zero, at_k)
    go true is rest (suc k) at_k = let found : (j : ℕ) × (slice_get (filter p ys) j ≡ Some x) = rest k at_k in (suc found.0, found.1)
    go false is rest zero at_k = absurd (let no_way : false ≡ true = sym is ∙ ap p (Some-injective at_k) ∙ passes in cc)
    go false is rest (suc k) at_k = rest k at_k

-- a filter that drops none that passes a test changes nothing of whether one passes it
pub any_filter : {A : Type 0} (keep p : A → Bool) (xs : List A) → ((i : ℕ) (x : A) → slice_get xs i ≡ Some x → keep x ≡ false → p x ≡ false) → list_any p (filter keep xs) ≡ list_any p xs
any_filter keep p [] drops = refl
any_filter {A} keep p (x ∷ xs) drops = go (keep x) refl (any_filter keep p xs (λ i y at. drops (suc i) y at))
  where
    go : (b : Bool) → keep x ≡ b → list_any p (filter keep xs) ≡ list_any p xs → list_any p (cond b (x ∷ filter keep xs) (filter keep xs)) ≡ (p x || list_any p xs)
    go true is rest = ap (λ b. p x || b) rest
    go false is rest = rest ∙ ap (λ b. b || list_any p xs) (sym (drops zero x refl is))

-- where each element passes a test, and so a weaker one
pub all_weaker : {A : Type 0} (p q : A → Bool) (xs : List A) → ((i : ℕ) (x : A) → slice_get xs i ≡ Some x → p x ≡ true → q x ≡ true) → list_all p xs ≡ true → list_all q xs ≡ true
all_weaker p q [] weaker all = refl
all_weaker p q (x ∷ xs) weaker all =
    let both : (p x ≡ true) × (list_all p xs ≡ true) = and_parts (p x) (list_all p xs) all in
    and_from (q x) (list_all q xs) (weaker zero x refl both.0) (all_weaker p q xs (λ i y at. weaker (suc i) y at) both.1)

-- an element of a list with one more at its end
pub push-cases : {A : Type 0} (xs : List A) (x y : A) (i : ℕ) → slice_get (xs ++ x ∷ []) i ≡ Some y → (slice_get xs i ≡ Some y) ⊎ ((i ≡ length xs) × (x ≡ y))
push-cases {A} [] x y zero h = inr (refl, Some-injective h)
push-cases [] x y (suc i) h = absurd (let no_way : None ≡ Some y = h in cc)
push-cases (z ∷ xs) x y zero h = inl h
push-cases (z ∷ xs) x y (suc i) h = elim (push-cases xs x y i h) [ inl is ↦ inl is | inr is ↦ inr (ap suc is.0, is.1) ]

-- what holds of all elements holds of each, by its place, and back
module _ {A : Type 0} (P : A → Type 0) where
  pub All-at : (xs : List A) (i : ℕ) (x : A) → All P xs → slice_get xs i ≡ Some x → P x
  All-at [] i x all at = absurd (let no_way : None ≡ Some x = at in cc)
  All-at (y ∷ ys) zero x all at = subst P (Some-injective at) (All-head P y ys all)
  All-at (y ∷ ys) (suc i) x all at = All-at ys i x (All-tail P y ys all) at

  pub All-each : (xs : List A) → ((i : ℕ) (x : A) → slice_get xs i ≡ Some x → P x) → All P xs
  All-each [] each = All-nil P
  All-each (y ∷ ys) each = All-cons P y ys (each zero y refl) (All-each ys (λ i x at. each (suc i) x at))

-- a front of a list has its elements, at their places
pub at_take : {A : Type 0} (n : ℕ) (xs : List A) (i : ℕ) (x : A) → slice_get (take n xs) i ≡ Some x → slice_get xs i ≡ Some x
at_take zero xs i x at = absurd (none_at i x at)
at_take (suc n) [] i x at = at
at_take (suc n) (y ∷ ys) zero x at = at
at_take (suc n) (y ∷ ys) (suc i) x at = at_take n ys i x at

-- each byte of zeros, and after them, is read as zero
pub get_or-zeros : (n k : ℕ) → get_or (replicate n 0) k 0 ≡ zero
get_or-zeros zero k = refl
get_or-zeros (suc n) zero = refl
get_or-zeros (suc n) (suc k) = get_or-zeros n k

-- and those before its end stand in the front
pub take-at : {A : Type 0} (n : ℕ) (xs : List A) (i : ℕ) (x : A) → i < n → slice_get xs i ≡ Some x → slice_get (take n xs) i ≡ Some x
take-at n [] i x below at = absurd (none_at i x at)
take-at zero (y ∷ ys) i x below at = absurd (omega (arith, below))
take-at (suc n) (y ∷ ys) zero x below at = at
take-at (suc n) (y ∷ ys) (suc i) x below at = take-at n ys i x (omega (arith, below)) at

-- what a list is made of by a function
pub at-map : {A B : Type 0} (f : A → B) (xs : List A) (i : ℕ) (y : B) → slice_get (map f xs) i ≡ Some y → (x : A) × (slice_get xs i ≡ Some x) × (f x ≡ y)
at-map f [] i y at = absurd (none_at i y at)
at-map f (x ∷ xs) zero y at = (x, refl, Some-injective at)
at-map f (x ∷ xs) (suc i) y at = at-map f xs i y at

-- what a numbered list has at a place
pub enumerated_at : {A : Type 0} (n : ℕ) (xs : List A) (k : ℕ) (p : ℕ × A) → slice_get (enumerate_from n xs) k ≡ Some p → (p.0 ≡ n + k) × (slice_get xs k ≡ Some p.1)
enumerated_at n [] k p at = absurd (none_at k p at)
enumerated_at n (x ∷ xs) zero p at = let same = Some-injective at in (ap (λ q. q.0) (sym same) ∙ omega arith, ap (λ q. Some q.1) same)
enumerated_at n (x ∷ xs) (suc k) p at = let later = enumerated_at (n + 1) xs k p at in (let is : p.0 ≡ n + 1 + k = later.0 in omega arith, later.1)

-- where each element fails a test, none is found, and none is kept
pub find_none : {A : Type 0} (p : A → Bool) (xs : List A) → ((i : ℕ) (x : A) → slice_get xs i ≡ Some x → p x ≡ false) → find p xs ≡ None
find_none p [] none = refl
find_none p (x ∷ xs) none = ap (λ (b : Bool). cond b (Some x) (find p xs)) (none 0 x refl) ∙ find_none p xs (λ i y at. none (suc i) y at)

pub filter_none : {A : Type 0} (p : A → Bool) (xs : List A) → ((i : ℕ) (x : A) → slice_get xs i ≡ Some x → p x ≡ false) → filter p xs ≡ []
filter_none p [] none = refl
filter_none p (x ∷ xs) none = ap (λ (b : Bool). cond b (x ∷ filter p xs) (filter p xs)) (none zero x refl) ∙ filter_none p xs (λ i y at. none (suc i) y at)

-- where a test fails from one number up to another, it passes on none of these
pub none_between : (p : ℕ → Bool) (a n : ℕ) → ((i : ℕ) → a ≤ i → i < a + n → p i ≡ false) → list_any p (range_with_len a n) ≡ false
none_between p a zero none = refl
none_between p a (suc n) none =
    ap (λ b. b || list_any p (range_with_len (a + 1) n)) (none a (omega arith) (omega arith))
    ∙ none_between p (a + 1) n (λ i from to. none i (omega (arith, from)) (omega (arith, to)))

-- lists that are all empty, one after the other
pub flat_map_none : {A B : Type 0} (f : A → List B) → ((x : A) → f x ≡ []) → (xs : List A) → flat_map f xs ≡ []
flat_map_none f none [] = refl
flat_map_none f none (x ∷ xs) = ap (λ l. l ++ flat_map f xs) (none x) ∙ flat_map_none f none xs
