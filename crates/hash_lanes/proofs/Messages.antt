-- Lists of vectors hold a list of words of each message.
use Rattle.std.proofs.Common.{◌≡◌, ℕ, ◌+◌, ◌*◌, ◌%◌, ◌<◌, List, [], ◌∷◌, length, map, replicate, get_or}
use Rattle.std.proofs.Common.{refl, ◌∙◌, inl, inr, arith}
use Rattle.std.proofs.Math.ListN.{get_or-map, set}
use Rattle.std.proofs.lemmas.Bool.{cases_lt}
use Rattle.std.proofs.lemmas.List.{get_or-set_same, get_or-set_other, length-map, map-set}
use Rattle.sha2.specs.Sha256.{add32, add_state, big_sigma0, big_sigma1, ch, maj, round}
use Rattle.sha2.specs.Sha256.{small_sigma0, small_sigma1, window_word, word_at}
use Rattle.hash_lanes.specs.Lanes.{lane}
use Rattle.hash_lanes.proofs.Vectors.{splat}

-- word k of message i
abbrev pub word_of : ℕ → List (List ℕ) → ℕ → ℕ
word_of i vs k = get_or (get_or vs k []) i 0

pub get_or-lane : (i : ℕ) (vs : List (List ℕ)) (k : ℕ) → get_or (lane i vs) k 0 ≡ word_of i vs k
get_or-lane i vs k = get_or-map (λ v. get_or v i 0) vs k []

-- the same words for each message
pub lane-splats : (n i : ℕ) → i < n → (xs : List ℕ) → lane i (map (λ x. replicate n x) xs) ≡ xs
lane-splats n i low [] = refl
lane-splats n i low (x ∷ xs) = λ k. (splat n x).lanes i low k ∷ lane-splats n i low xs k

-- a ring of vectors with a new one at place k
pub lane-set : (i : ℕ) (w next : List (List ℕ)) (k : ℕ) (word : List ℕ)
    → next ≡ set w k word → lane i next ≡ set (lane i w) k (get_or word i 0)
lane-set i w next k word e = rw e (map-set (λ v. get_or v i 0) w k word)

-- the next word of message i, from its words in the window
pub window_word-lane : (w : List (List ℕ)) (place i : ℕ) → place < 16
    → add32 (add32 (add32 (small_sigma1 (word_of i w ((place + 14) % 16))) (word_of i w ((place + 9) % 16)))
    (small_sigma0 (word_of i w ((place + 1) % 16)))) (word_of i w place) ≡ window_word (lane i w) place
window_word-lane w place i low =
    let at : place % 16 ≡ place = omega arith in
    rw (
      at,
      get_or-lane i w ((place + 14) % 16),
      get_or-lane i w ((place + 9) % 16),
      get_or-lane i w ((place + 1) % 16),
      get_or-lane i w place,
    )
    refl

-- the working variables after a round, of which the first and the fifth are new
abbrev pub moved : List (List ℕ) → List ℕ → List ℕ → List (List ℕ)
moved v top middle =
    top ∷ get_or v 0 [] ∷ get_or v 1 [] ∷ get_or v 2 [] ∷ middle ∷ get_or v 4 [] ∷ get_or v 5 [] ∷ get_or v 6 [] ∷ []

-- one round of message i, from T 1 and T 2 of all messages
pub round-lane : (i : ℕ) (v : List (List ℕ)) (k word : ℕ) (first second top middle : List ℕ)
    → get_or first i 0 ≡ add32 (add32 (add32 (add32 (word_of i v 7) (big_sigma1 (word_of i v 4)))
    (ch (word_of i v 4) (word_of i v 5) (word_of i v 6))) k) word
    → get_or second i 0 ≡ add32 (big_sigma0 (word_of i v 0)) (maj (word_of i v 0) (word_of i v 1) (word_of i v 2))
    → get_or top i 0 ≡ add32 (get_or first i 0) (get_or second i 0)
    → get_or middle i 0 ≡ add32 (word_of i v 3) (get_or first i 0)
    → lane i (moved v top middle) ≡ round (lane i v) k word
round-lane i v k word first second top middle e1 e2 et em =
    rw (get_or-lane i v 0, get_or-lane i v 1, get_or-lane i v 2, get_or-lane i v 3)
    (rw (get_or-lane i v 4, get_or-lane i v 5, get_or-lane i v 6, get_or-lane i v 7, et, em, e1, e2) refl)

-- one more word of the first window
pub words_more : (i : ℕ) (w : List (List ℕ)) (n k : ℕ) (words b : List ℕ) → n < length w → k < n + 1
    → (k < n → get_or (lane i w) k 0 ≡ word_at b (4 * k)) → get_or words i 0 ≡ word_at b (4 * n)
    → get_or (lane i (set w n words)) k 0 ≡ word_at b (4 * k)
words_more i w n k words b fits lt before now =
    let long : n < length (lane i w) = omega (arith, length-map w (λ v. get_or v i 0)) in
    rw (lane-set i w _ n words refl)
    (elim (cases_lt k n) [
      | inl h ↦ get_or-set_other (lane i w) n k (get_or words i 0) 0 (omega arith) ∙ before h
      | inr g ↦
          let e : n ≡ k = omega arith in
          rw (← e) (get_or-set_same (lane i w) n (get_or words i 0) 0 long ∙ now)
    ])

-- word k of message i is the sum of two
abbrev pub IsSum : ℕ → List (List ℕ) → List (List ℕ) → ℕ → List ℕ → Type 0
IsSum i h v k sum = get_or sum i 0 ≡ add32 (word_of i h k) (word_of i v k)

-- the hash value of message i, with the rounds of a part added to it
pub add_state-lane : (i : ℕ) (h v : List (List ℕ)) (s0 s1 s2 s3 s4 s5 s6 s7 : List ℕ)
    → IsSum i h v 0 s0 → IsSum i h v 1 s1 → IsSum i h v 2 s2 → IsSum i h v 3 s3
    → IsSum i h v 4 s4 → IsSum i h v 5 s5 → IsSum i h v 6 s6 → IsSum i h v 7 s7
    → lane i (s0 ∷ s1 ∷ s2 ∷ s3 ∷ s4 ∷ s5 ∷ s6 ∷ s7 ∷ []) ≡ add_state (lane i h) (lane i v)
add_state-lane i h v s0 s1 s2 s3 s4 s5 s6 s7 e0 e1 e2 e3 e4 e5 e6 e7 =
    rw (get_or-lane i h 0, get_or-lane i h 1, get_or-lane i h 2, get_or-lane i h 3)
    (rw (get_or-lane i h 4, get_or-lane i h 5, get_or-lane i h 6, get_or-lane i h 7)
    (rw (get_or-lane i v 0, get_or-lane i v 1, get_or-lane i v 2, get_or-lane i v 3)
    (rw (get_or-lane i v 4, get_or-lane i v 5, get_or-lane i v 6, get_or-lane i v 7)
    (rw (e0, e1, e2, e3, e4, e5, e6, e7) refl))))
