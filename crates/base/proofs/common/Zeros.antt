-- Bytes of which each is as the one before it.
use Rattle.std.proofs.Common.{◌≡◌, List, [], ◌∷◌, Bool, Decides, ℕ, zero, suc, length, replicate, take, refl, ap, sym, ◌∙◌, subst}

heads : (x y : ℕ) (xs ys : List ℕ) → x ∷ xs ≡ y ∷ ys → (x ≡ y) × (xs ≡ ys)
heads x y xs ys same = (cc, cc)

-- they are all this one if the first one is
shifted_same : (v : ℕ) (rest : List ℕ) → rest ≡ take (length rest) (v ∷ rest) → rest ≡ replicate (length rest) v
shifted_same v [] same = refl
shifted_same v (y ∷ ys) same =
    let parts = heads y v ys (take (length ys) (y ∷ ys)) same in
    ap (λ x. x ∷ ys) parts.0
    ∙ ap (λ xs. v ∷ xs) (shifted_same v ys (parts.1 ∙ ap (λ x. take (length ys) (x ∷ ys)) parts.0))

same_shifted : (v n : ℕ) → replicate {A = ℕ} n v ≡ take n (v ∷ replicate n v)
same_shifted v zero = refl
same_shifted v (suc n) = ap (λ xs. v ∷ xs) (same_shifted v n)

after_first : (v : ℕ) (rest : List ℕ) (same : Bool) → Decides same (rest ≡ take (length rest) (v ∷ rest))
    → Decides same (v ∷ rest ≡ replicate (length (v ∷ rest)) v)
after_first v rest same told = (
  λ yes. ap (λ xs. v ∷ xs) (shifted_same v rest (told.0 yes)),
  λ all.
      let rests = (heads v v rest (replicate (length rest) v) all).1 in
      told.1 (rests ∙ same_shifted v (length rest) ∙ ap (λ xs. take (length rest) (v ∷ xs)) (sym rests)),
)

pub are_shifted : (v : ℕ) (bytes : List ℕ) (first : ℕ) (rest : List ℕ) (same : Bool) → bytes ≡ first ∷ rest → first ≡ v
    → Decides same (rest ≡ take (length rest) bytes) → Decides same (bytes ≡ replicate (length bytes) v)
are_shifted v bytes first rest same is one =
    subst (λ b. Decides same (rest ≡ take (length rest) b) → Decides same (b ≡ replicate (length b) v))
    (sym (is ∙ ap (λ x. x ∷ rest) one)) (after_first v rest same)
