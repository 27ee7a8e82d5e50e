-- What is found under a name in a list, where something is added at the end or those of a name are taken out.
use Rattle.std.proofs.Common.{◌≡◌, ◌∙◌, ℕ, Bool, true, false, not, List, [], ◌∷◌, ◌++◌, refl, ap, sym}
use Rattle.std.specs.Prelude.{◌==◌, Option, Some, None, cond, filter, find}
use Rattle.std.specs.Option.{option_map}
use Rattle.std.proofs.lemmas.Bool.{eqb-true, eq-eqb, false≢true}

-- the first of two, if there is one, and else the second
abbrev pub first_of : {Y : Type 0} → Option Y → Option Y → Option Y
first_of None other = other
first_of (Some y) other = Some y

module _ {X Y : Type 0} (name : X → ℕ) (value : X → Y) where
  -- the value that is found under a name
  abbrev pub value_at : ℕ → List X → Option Y
  value_at t xs = option_map value (find (λ (x : X). name x == t) xs)

  abbrev pub without : ℕ → List X → List X
  without u xs = filter (λ (x : X). not (name x == u)) xs

  -- the value of one, if this is its name
  abbrev pub value_if : Bool → X → Option Y
  value_if b x = cond b (Some (value x)) None

  pub value-added : (t : ℕ) (xs : List X) (x : X) → value_at t (xs ++ x ∷ []) ≡ first_of (value_at t xs) (value_if (name x == t) x)
  value-added t [] x = go (name x == t)
    where
      go : (b : Bool) → option_map value (cond b (Some x) None) ≡ value_if b x
      go true = refl
      go false = refl
  value-added t (y ∷ ys) x = go (value-added t ys x) (name y == t)
    where
      go : value_at t (ys ++ x ∷ []) ≡ first_of (value_at t ys) (value_if (name x == t) x) → (b : Bool)
          → option_map value (cond b (Some y) (find (λ (z : X). name z == t) (ys ++ x ∷ [])))
          ≡ first_of (option_map value (cond b (Some y) (find (λ (z : X). name z == t) ys))) (value_if (name x == t) x)
      go rest true = refl
      go rest false = rest

  pub value-without : (t : ℕ) (xs : List X) → value_at t (without t xs) ≡ None
  value-without t [] = refl
  value-without t (y ∷ ys) = go (value-without t ys) (name y == t) refl
    where
      go : value_at t (without t ys) ≡ None → (b : Bool) → (name y == t) ≡ b → value_at t (cond (not b) (y ∷ without t ys) (without t ys)) ≡ None
      go rest true is = rest
      go rest false is = ap (λ (b : Bool). option_map value (cond b (Some y) (find (λ (z : X). name z == t) (without t ys)))) is ∙ rest

  pub value-without_other : (u t : ℕ) (xs : List X) → (t == u) ≡ false → value_at t (without u xs) ≡ value_at t xs
  value-without_other u t [] other = refl
  value-without_other u t (y ∷ ys) other = go (value-without_other u t ys other) (name y == u) refl
    where
      same : value_at t (without u ys) ≡ value_at t ys → (b : Bool)
          → option_map value (cond b (Some y) (find (λ (z : X). name z == t) (without u ys))) ≡ option_map value (cond b (Some y) (find (λ (z : X). name z == t) ys))
      same rest true = refl
      same rest false = rest

      not_it : (name y == u) ≡ true → (b : Bool) → (name y == t) ≡ b → b ≡ false
      not_it is true it = absurd (false≢true (sym other ∙ eq-eqb t u (sym (eqb-true (name y) t it) ∙ eqb-true (name y) u is)))
      not_it is false it = refl

      go : value_at t (without u ys) ≡ value_at t ys → (b : Bool) → (name y == u) ≡ b → value_at t (cond (not b) (y ∷ without u ys) (without u ys)) ≡ value_at t (y ∷ ys)
      go rest true is = rest ∙ sym (ap (λ (b : Bool). option_map value (cond b (Some y) (find (λ (z : X). name z == t) ys))) (not_it is (name y == t) refl))
      go rest false is = same rest (name y == t)
