-- Elements of bytes are bytes, and so are parts of them, and bytes that are put among others.
use Rattle.std.proofs.Common.{◌≡◌, ℕ, zero, suc, ◌+◌, List, [], ◌∷◌, ◌++◌, get_or, length, take, drop, refl, ◌∙◌, true, arith, Fits, w8}
use Rattle.std.specs.Prelude.{nat_lt}
use Rattle.std.specs.List.{list_all}
use Rattle.std.proofs.lemmas.List.Folds.{list_all-append}
use Rattle.std.proofs.lemmas.Bool.{and_parts, and_from, lt-ltb}
use Rattle.base.specs.disk.Disk.{put}
use Rattle.tree_blocks.specs.Bytes.{AreBytes}

-- elements of bytes are bytes
pub all_bytes : (xs : List ℕ) → ((i : ℕ) → Fits w8 (get_or xs i 0)) → list_all (λ b. nat_lt b 256) xs ≡ true
all_bytes [] fit = refl
all_bytes (x ∷ xs) fit = let first : Fits w8 x = fit 0 in and_from (nat_lt x 256) (list_all (λ b. nat_lt b 256) xs) (lt-ltb x 256 (omega (arith, first))) (all_bytes xs (λ i. fit (suc i)))

bytes-take : (n : ℕ) (xs : List ℕ) → AreBytes xs → AreBytes (take n xs)
bytes-take zero xs h = refl
bytes-take (suc n) [] h = refl
bytes-take (suc n) (x ∷ xs) h =
    let both = and_parts (nat_lt x 256) (list_all (λ b. nat_lt b 256) xs) h in
    and_from (nat_lt x 256) (list_all (λ b. nat_lt b 256) (take n xs)) both.0 (bytes-take n xs both.1)

bytes-drop : (n : ℕ) (xs : List ℕ) → AreBytes xs → AreBytes (drop n xs)
bytes-drop zero xs h = h
bytes-drop (suc n) [] h = refl
bytes-drop (suc n) (x ∷ xs) h = bytes-drop n xs (and_parts (nat_lt x 256) (list_all (λ b. nat_lt b 256) xs) h).1

bytes-append : (xs ys : List ℕ) → AreBytes xs → AreBytes ys → AreBytes (xs ++ ys)
bytes-append xs ys x y = list_all-append (λ b. nat_lt b 256) xs ys ∙ and_from (list_all (λ b. nat_lt b 256) xs) (list_all (λ b. nat_lt b 256) ys) x y

pub bytes-put : (at : ℕ) (content bytes : List ℕ) → AreBytes content → AreBytes bytes → AreBytes (put at content bytes)
bytes-put at content bytes new old =
    bytes-append (take at bytes) (content ++ drop (at + length content) bytes) (bytes-take at bytes old)
    (bytes-append content (drop (at + length content) bytes) new (bytes-drop (at + length content) bytes old))
