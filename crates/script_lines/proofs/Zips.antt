-- What holds of two lists element by element also holds with one element more of each.
use Rattle.std.proofs.Common.{◌<◌, ◌++◌, ◌∷◌, [], ℕ, List, sym, subst, ◌+◌, length, get_or, take}
use Rattle.std.specs.List.{AllZip}
use Rattle.std.proofs.lemmas.List.{take_more}

zip_push : {A B : Type 0} (R : A → B → Type 0) (xs : List A) (ys : List B) (x : A) (y : B) → AllZip R xs ys → R x y → AllZip R (xs ++ x ∷ []) (ys ++ y ∷ [])
zip_push R [] [] x y so next = (next, tt)
zip_push R [] (b ∷ ys) x y so next = absurd so
zip_push R (a ∷ xs) [] x y so next = absurd so
zip_push R (a ∷ xs) (b ∷ ys) x y so next = (so.0, zip_push R xs ys x y so.1 next)

pub zip_more : {A B : Type 0} (R : A → B → Type 0) (xs : List A) (ys : List B) (i : ℕ) (d : A) (y : B) → i < length xs
    → AllZip R (take i xs) ys → R (get_or xs i d) y → AllZip R (take (i + 1) xs) (ys ++ y ∷ [])
zip_more R xs ys i d y low so next =
    subst (λ l. AllZip R l (ys ++ y ∷ [])) (sym (take_more xs i d low)) (zip_push R (take i xs) ys (get_or xs i d) y so next)
