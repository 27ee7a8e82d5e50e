-- Messages side by side: a vector has one word of each, and a list of vectors has a list of words of each.
use Rattle.std.specs.Prelude.{◌≡◌, ℕ, zero, suc, ◌<◌, List, length, map, slice_index}

-- the n words of a vector, by the message
pub record HasLanes (n : ℕ) (v : List ℕ) (word : ℕ → ℕ) : Type 0 where
  pub len : length v ≡ n
  pub lanes : (i : ℕ) → i < n → slice_index v i ≡ word i

-- the words of message i
abbrev pub lane : ℕ → List (List ℕ) → List ℕ
lane i vs = map (λ v. slice_index v i) vs

-- message i of the four
abbrev pub one_of : ℕ → List ℕ → List ℕ → List ℕ → List ℕ → List ℕ
one_of zero a b c d = a
one_of (suc zero) a b c d = b
one_of (suc (suc zero)) a b c d = c
one_of (suc (suc (suc i))) a b c d = d

-- message i of the eight
abbrev pub one_of_eight : ℕ → List ℕ → List ℕ → List ℕ → List ℕ → List ℕ → List ℕ → List ℕ → List ℕ → List ℕ
one_of_eight zero a b c d e f g h = a
one_of_eight (suc zero) a b c d e f g h = b
one_of_eight (suc (suc zero)) a b c d e f g h = c
one_of_eight (suc (suc (suc zero))) a b c d e f g h = d
one_of_eight (suc (suc (suc (suc i)))) a b c d e f g h = one_of i e f g h
