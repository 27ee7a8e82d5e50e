-- An operation on vectors of n words is the operation on the words of each lane.
use Rattle.std.proofs.Common.{◌≡◌, ℕ, ◌-◌, ◌*◌, ◌/◌, ◌%◌, ◌^◌, ◌<◌, List, map, length, replicate, get_or, bit_or}
use Rattle.std.proofs.Common.{refl, sym, ap, ◌∙◌, arith}
use Rattle.std.proofs.lemmas.List.{get_or-map, length-map}
use Rattle.std.proofs.lemmas.Simd.{get_or-zip2, get_or-replicate, length-replicate, length-zip2}
use Rattle.std.specs.Int.{w32, rotate_right}
use lib.Lanes.{zip2}
use Rattle.hash_lanes.specs.Lanes.{HasLanes}

-- a vector's own words
pub own : {n : ℕ} (v : List ℕ) → length v ≡ n → HasLanes n v (λ i. get_or v i 0)
own v long = record { len = long; lanes = λ i h. refl }

-- the same words, spelled another way
pub spelled : {n : ℕ} {v : List ℕ} {f : ℕ → ℕ} (g : ℕ → ℕ) → HasLanes n v f → ((i : ℕ) → i < n → f i ≡ g i) → HasLanes n v g
spelled g p same = record { len = p.len; lanes = λ i h. p.lanes i h ∙ same i h }

-- an operator on two vectors
pub both : {n : ℕ} (op : ℕ → ℕ → ℕ) {xs ys : List ℕ} {f g : ℕ → ℕ}
    → HasLanes n xs f → HasLanes n ys g → HasLanes n (zip2 op xs ys) (λ i. op (f i) (g i))
both {n} op {xs} {ys} {f} {g} p q = record {
  len = length-zip2 op xs ys (p.len ∙ sym q.len) ∙ p.len;
  lanes = λ i h. get_or-zip2 op xs ys i 0 0 0 (omega (arith, p.len)) (omega (arith, q.len))
      ∙ (λ k. op (p.lanes i h k) (q.lanes i h k));
}

-- an operator on one vector
pub each : {n : ℕ} (op : ℕ → ℕ) {xs : List ℕ} {f : ℕ → ℕ} → HasLanes n xs f → HasLanes n (map op xs) (λ i. op (f i))
each {n} op {xs} {f} p = record {
  len = length-map xs op ∙ p.len;
  lanes = λ i h. get_or-map op xs i 0 0 (omega (arith, p.len)) ∙ ap op (p.lanes i h);
}

-- the same word in each lane
pub splat : (n x : ℕ) → HasLanes n (replicate n x) (λ _. x)
splat n x = record { len = length-replicate {A = ℕ} n x; lanes = λ i h. get_or-replicate {A = ℕ} n i x 0 h }

-- a rotation is two shifts
pub rotate_right-shifts : (n k : ℕ) → 0 < k → k < 32
    → bit_or (n / 2 ^ k) (n * 2 ^ (32 - k) % 2 ^ 32) ≡ rotate_right w32 n k
rotate_right-shifts n k low high =
    let a : k % 32 ≡ k = omega arith in
    let b : (32 - k) % 32 ≡ 32 - k = omega arith in
    rw (a, b) refl
