-- What is kept of a list by marks or by a test.
use Rattle.std.proofs.Common.{◌≡◌, ℕ, zero, suc, ◌<◌, List, [], ◌∷◌, refl, ap, ◌∙◌, arith, Bool, true, false, cond, length, get_or}
use Rattle.std.specs.Prelude.{not, ◌&&◌, map, filter, All, AllPairs}
use Rattle.std.proofs.lemmas.List.Elements.{All-head, All-tail, All-nil, All-cons}
use Rattle.base.specs.history.History.{kept}

module _ {X : Type 0} where
  -- what holds of each marked element holds of each kept one
  pub All-kept : (P : X → Type 0) (marks : List Bool) (xs : List X) → ((j : ℕ) (d : X) → j < length xs → get_or marks j false ≡ true → P (get_or xs j d)) → All P (kept marks xs)
  All-kept P [] xs each = All-nil P
  All-kept P (mark ∷ marks) [] each = All-nil P
  All-kept P (true ∷ marks) (x ∷ xs) each = All-cons P x (kept marks xs) (each zero x (omega arith) refl) (All-kept P marks xs (λ j d l m. each (suc j) d (omega arith) m))
  All-kept P (false ∷ marks) (x ∷ xs) each = All-kept P marks xs (λ j d l m. each (suc j) d (omega arith) m)

  pub AllPairs-cons : (R : X → X → Type 0) (x : X) (xs : List X) → All (R x) xs → AllPairs R xs → AllPairs R (x ∷ xs)
  AllPairs-cons R x xs first rest zero zero d l m = absurd (omega arith)
  AllPairs-cons R x xs first rest zero (suc j) d l m = first j d (omega arith)
  AllPairs-cons R x xs first rest (suc i) zero d l m = absurd (omega arith)
  AllPairs-cons R x xs first rest (suc i) (suc j) d l m = rest i j d (omega arith) (omega arith)

  pub AllPairs-head : (R : X → X → Type 0) (x : X) (xs : List X) → AllPairs R (x ∷ xs) → All (R x) xs
  AllPairs-head R x xs pairs j d l = pairs zero (suc j) d (omega arith) (omega arith)

  pub AllPairs-tail : (R : X → X → Type 0) (x : X) (xs : List X) → AllPairs R (x ∷ xs) → AllPairs R xs
  AllPairs-tail R x xs pairs i j d l m = pairs (suc i) (suc j) d (omega arith) (omega arith)

  pub All-of_kept : (P : X → Type 0) (marks : List Bool) (xs : List X) → All P xs → All P (kept marks xs)
  All-of_kept P marks xs all = All-kept P marks xs (λ j d l m. all j d l)

  pub AllPairs-kept : (R : X → X → Type 0) (marks : List Bool) (xs : List X) → AllPairs R xs → AllPairs R (kept marks xs)
  AllPairs-kept R [] xs pairs = λ i j d l m. absurd (omega arith)
  AllPairs-kept R (mark ∷ marks) [] pairs = λ i j d l m. absurd (omega arith)
  AllPairs-kept R (true ∷ marks) (x ∷ xs) pairs = AllPairs-cons R x (kept marks xs) (All-of_kept (R x) marks xs (AllPairs-head R x xs pairs)) (AllPairs-kept R marks xs (AllPairs-tail R x xs pairs))
  AllPairs-kept R (false ∷ marks) (x ∷ xs) pairs = AllPairs-kept R marks xs (AllPairs-tail R x xs pairs)

  -- marks made by a test keep what the test does
  pub kept-map : (p : X → Bool) (xs : List X) → kept (map p xs) xs ≡ filter p xs
  kept-map p [] = refl
  kept-map p (x ∷ xs) = go (p x) (kept-map p xs)
    where
      go : (b : Bool) → kept (map p xs) xs ≡ filter p xs → kept (b ∷ map p xs) (x ∷ xs) ≡ cond b (x ∷ filter p xs) (filter p xs)
      go true e = ap (λ ys. x ∷ ys) e
      go false e = e

  map_not-map : (p : X → Bool) (xs : List X) → map not (map p xs) ≡ map (λ x. not (p x)) xs
  map_not-map p [] = refl
  map_not-map p (x ∷ xs) = ap (λ bs. not (p x) ∷ bs) (map_not-map p xs)

  pub kept_others : (p : X → Bool) (xs : List X) → kept (map not (map p xs)) xs ≡ filter (λ x. not (p x)) xs
  kept_others p xs = ap (λ bs. kept bs xs) (map_not-map p xs) ∙ kept-map (λ x. not (p x)) xs

  -- a test after a test is a third one
  pub filter-filter : (p q r : X → Bool) → ((x : X) → r x ≡ (p x && q x)) → (xs : List X) → filter p (filter q xs) ≡ filter r xs
  filter-filter p q r same [] = refl
  filter-filter p q r same (x ∷ xs) = go (p x) (q x) (r x) refl (same x) (filter-filter p q r same xs)
    where
      go : (a b c : Bool) → p x ≡ a → c ≡ (a && b) → filter p (filter q xs) ≡ filter r xs → filter p (cond b (x ∷ filter q xs) (filter q xs)) ≡ cond c (x ∷ filter r xs) (filter r xs)
      go true true c e f h = rw (e, f) (ap (λ ys. x ∷ ys) h)
      go false true c e f h = rw (e, f) h
      go true false c e f h = rw f h
      go false false c e f h = rw f h

  pub filter_all : (p : X → Bool) (xs : List X) → All (λ x. p x ≡ true) xs → filter p xs ≡ xs
  filter_all p [] all = refl
  filter_all p (x ∷ xs) all = rw (All-head (λ x. p x ≡ true) x xs all) (ap (λ ys. x ∷ ys) (filter_all p xs (All-tail (λ x. p x ≡ true) x xs all)))

  pub filter_nothing : (xs : List X) → filter (λ x. false) xs ≡ []
  filter_nothing [] = refl
  filter_nothing (x ∷ xs) = filter_nothing xs
