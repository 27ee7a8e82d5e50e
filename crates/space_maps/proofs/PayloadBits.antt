-- Bits of a payload: what one that is set or cleared makes of all, and how many are 1.
use Rattle.std.proofs.Common.{◌≡◌, ◌≢◌, ℕ, zero, suc, ◌+◌, ◌/◌, ◌%◌, ◌≤◌, ◌<◌, Bool, true, false, cond, nat_eq, List, length, get_or, set, replicate, refl, ap, sym, ◌∙◌, arith, add-one, inl, inr}
use Rattle.std.specs.Int.{bit_at}
use Rattle.std.proofs.lemmas.Bool.{cases_eq}
use Rattle.std.proofs.lemmas.List.{get_or-set_same, get_or-set_other}
use Rattle.std.proofs.lemmas.Nat.Bits.{bit_at-zero}
use Rattle.base.proofs.common.KeptLists.{get_or-zeros}
use Rattle.checked_blocks.specs.Sealing.{zeros}
use Rattle.space_maps.specs.Nodes.{bit_in, count_true}

pub bit_in-put : (payload : List ℕ) (k byte value : ℕ) → length payload ≡ 4032 → k < 32256 → bit_at byte (k % 8) ≡ value → bit_in (set payload (k / 8) byte) k ≡ nat_eq value 1
unfolding bit_in
bit_in-put payload k byte value long low is =
    ap (λ (n : ℕ). nat_eq (bit_at n (k % 8)) 1) (get_or-set_same payload (k / 8) byte 0 (omega (arith, long, low))) ∙ ap (λ (n : ℕ). nat_eq n 1) is

pub bit_in-put_other : (payload : List ℕ) (k j byte : ℕ) → length payload ≡ 4032 → k < 32256
    → ((i : ℕ) → i < 8 → i ≢ k % 8 → bit_at byte i ≡ bit_at (get_or payload (k / 8) 0) i) → j ≢ k → bit_in (set payload (k / 8) byte) j ≡ bit_in payload j
unfolding bit_in
bit_in-put_other payload k j byte long low others ne = elim (cases_eq (j / 8) (k / 8)) [
  | inl e ↦
      let at : get_or (set payload (k / 8) byte) (j / 8) 0 ≡ byte = ap (λ (i : ℕ). get_or (set payload (k / 8) byte) i 0) e ∙ get_or-set_same payload (k / 8) byte 0 (omega (arith, long, low)) in
      let was : get_or payload (k / 8) 0 ≡ get_or payload (j / 8) 0 = ap (λ (i : ℕ). get_or payload i 0) (sym e) in
      let other : j % 8 ≢ k % 8 = λ same. ne (omega (arith, same, e)) in
      ap (λ (n : ℕ). nat_eq (bit_at n (j % 8)) 1) at ∙ ap (λ (n : ℕ). nat_eq n 1) (others (j % 8) (omega arith) other) ∙ ap (λ (n : ℕ). nat_eq (bit_at n (j % 8)) 1) was
  | inr apart ↦ ap (λ (n : ℕ). nat_eq (bit_at n (j % 8)) 1) (get_or-set_other payload (k / 8) (j / 8) byte 0 apart)
]

-- no bit of zeros is 1
pub bit_in-zeros : (n k : ℕ) → bit_in (zeros n) k ≡ false
unfolding bit_in zeros
bit_in-zeros n k = ap (λ (b : ℕ). nat_eq (bit_at b (k % 8)) 1) (get_or-zeros n (k / 8)) ∙ ap (λ (b : ℕ). nat_eq b 1) (bit_at-zero (k % 8))

pub count_true-next : (is : ℕ → Bool) (n more : ℕ) → more ≡ cond (is n) 1 0 → count_true is n + more ≡ count_true is (n + 1)
unfolding count_true
count_true-next is n more e = rw (add-one, e) refl
