-- The set of free addresses of flags, and what a flag that is set does to it.
use Rattle.std.proofs.Common.{◌≡◌, ◌≢◌, ℕ, zero, suc, ◌+◌, ◌<◌, Bool, true, false, not, ◌&&◌, ◌||◌, IsTrue, List, [], ◌∷◌, length, get_or, refl, sym, ◌∙◌, ap, arith, nat_eq}
use Rattle.std.specs.Prelude.{replicate}
use Rattle.std.specs.List.{list_any}
use Rattle.std.specs.Ordering.{nat_cmp, eq_by_cmp}
use Rattle.std.proofs.Math.ListN.{set as list_set}
use Rattle.std.proofs.lemmas.List.{get_or-replicate, length-replicate, set-get_or}
use Rattle.std.proofs.lemmas.Bool.{eq-eqb, eqb-true}
use Rattle.std.proofs.lemmas.Cmp.{nat_cmp_total}
use Rattle.std.specs.FinSet as set
use Rattle.std.specs.FinSet.{contains-from_list_nat, contains-remove, contains-insert, same_set, nat_cmp-IsAntisymmetric}
use Rattle.base.specs.formats.Geometry.{block_address, IsBlockAddress}
use Rattle.base.proofs.common.Choices.{or-swap}
use Rattle.base.proofs.stored.StoredSets.{tied}
use Rattle.space.specs.FreeSets.{HasAllOf}
use Rattle.space.specs.Flags.{addresses_from, free_of}

-- whether an address is one of these
abbrev pub is_among : ℕ → List ℕ → Bool
is_among address addresses = list_any (λ y. nat_eq y address) addresses

pub other : (a b : ℕ) → a ≢ b → nat_eq a b ≡ false
other a b ne = elim (nat_eq a b) as (λ t. nat_eq a b ≡ t → t ≡ false) [ true ↦ λ e. absurd (ne (eqb-true a b e)) | false ↦ λ _. refl ] refl

-- no address lies below the first block
none_below : (k : ℕ) (flags : List Bool) (q : ℕ) → q < block_address k → is_among q (addresses_from k flags) ≡ false
unfolding addresses_from
none_below k [] q low = refl
none_below k (true ∷ flags) q low =
    let ne : block_address k ≢ q = λ e. omega arith in
    ap (λ b. b || is_among q (addresses_from (k + 1) flags)) (other (block_address k) q ne) ∙ none_below (k + 1) flags q (omega arith)
none_below k (false ∷ flags) q low = none_below (k + 1) flags q (omega arith)

-- a block's address is among the free ones exactly if its flag says so
among : (k : ℕ) (flags : List Bool) (i q : ℕ) → q ≡ block_address (k + i) → is_among q (addresses_from k flags) ≡ get_or flags i false
unfolding addresses_from
among k [] i q e = refl
among k (true ∷ flags) zero q e = ap (λ b. b || is_among q (addresses_from (k + 1) flags)) (eq-eqb (block_address k) q (omega arith))
among k (true ∷ flags) (suc i) q e =
    let ne : block_address k ≢ q = λ h. omega arith in
    ap (λ b. b || is_among q (addresses_from (k + 1) flags)) (other (block_address k) q ne) ∙ among (k + 1) flags i q (omega arith)
among k (false ∷ flags) zero q e = none_below (k + 1) flags q (omega arith)
among k (false ∷ flags) (suc i) q e = among (k + 1) flags i q (omega arith)

-- what is among them is the address of a block whose flag says so
record IsFreeBlock (k : ℕ) (flags : List Bool) (q : ℕ) : Type 0 where
  index : ℕ
  low : index < length flags
  is : q ≡ block_address (k + index)
  free : get_or flags index false ≡ true

one_more : (k : ℕ) (b : Bool) (flags : List Bool) (q : ℕ) → IsFreeBlock (k + 1) flags q → IsFreeBlock k (b ∷ flags) q
one_more k b flags q f = record { index = suc f.index; low = (let h = f.low in omega arith); is = (let h = f.is in omega arith); free = f.free }

from_among : (k : ℕ) (flags : List Bool) (q : ℕ) → is_among q (addresses_from k flags) ≡ true → IsFreeBlock k flags q
unfolding addresses_from
from_among k [] q e = absurd (cc)
from_among k (true ∷ flags) q e =
    elim (nat_eq (block_address k) q) as (λ t. nat_eq (block_address k) q ≡ t → (t || is_among q (addresses_from (k + 1) flags)) ≡ true → IsFreeBlock k (true ∷ flags) q) [
      | true ↦ λ here _. let is : block_address k ≡ q = eqb-true (block_address k) q here in record { index = 0; low = omega arith; is = omega arith; free = refl }
      | false ↦ λ _ rest. one_more k true flags q (from_among (k + 1) flags q rest)
    ] refl e
from_among k (false ∷ flags) q e = one_more k false flags q (from_among (k + 1) flags q e)

contains-is_among : (flags : List Bool) (q : ℕ) → set.contains (free_of flags) q ≡ is_among q (addresses_from 0 flags)
contains-is_among flags q = contains-from_list_nat (addresses_from 0 flags) q

-- a block is free exactly if its flag says so
pub contains-free_of : (flags : List Bool) (i : ℕ) → set.contains (free_of flags) (block_address i) ≡ get_or flags i false
contains-free_of flags i = contains-is_among flags (block_address i) ∙ among 0 flags i (block_address i) (omega arith)

-- and nothing but blocks is free
free_of-contains : (flags : List Bool) (q : ℕ) → set.contains (free_of flags) q ≡ true → (i : ℕ) × (i < length flags) × (q ≡ block_address i) × (get_or flags i false ≡ true)
free_of-contains flags q e =
    let f = from_among 0 flags q (sym (contains-is_among flags q) ∙ e) in
    let is : q ≡ block_address f.index = (let h = f.is in omega arith) in
    (f.index, f.low, is, f.free)

-- where all flags are true, all addresses are free
pub all_free : (n : ℕ) (flags : List Bool) → flags ≡ replicate n true → HasAllOf n (free_of flags)
all_free n flags e q = (
  (λ t. let f = free_of-contains flags q (is_true (set.contains (free_of flags) q) t) in (f.0, (let h = f.1 in let l = ap length e ∙ length-replicate n true in omega arith), f.2)),
  (λ a. let here : set.contains (free_of flags) q ≡ true =
      ap (set.contains (free_of flags)) a.2 ∙ contains-free_of flags a.0 ∙ ap (λ l. get_or l a.0 false) e ∙ get_or-replicate n a.0 true false a.1 in here),
)
  where
    is_true : (b : Bool) → IsTrue b → b ≡ true
    is_true b t = t

-- each free address is that of a block
pub all_placed : (blocks : ℕ) (flags : List Bool) → blocks ≡ length flags → (address : ℕ) → IsTrue (set.contains (free_of flags) address) → IsBlockAddress blocks address
all_placed blocks flags count address t = let f = free_of-contains flags address t in (f.0, (let low = f.1 in omega (arith, low, count)), f.2)

-- a flag that is cleared
among-cleared : (k : ℕ) (flags : List Bool) (i q : ℕ) → is_among q (addresses_from k (list_set flags i false)) ≡ (not (nat_eq (block_address (k + i)) q) && is_among q (addresses_from k flags))
unfolding addresses_from
among-cleared k [] i q = and_false (not (nat_eq (block_address (k + i)) q))
  where
    and_false : (b : Bool) → false ≡ (b && false)
    and_false true = refl
    and_false false = refl
among-cleared k (true ∷ flags) zero q =
    let e : k + 0 ≡ k = omega arith in
    rw e (cut (nat_eq (block_address k) q) (is_among q (addresses_from (k + 1) flags)) (λ t. none_below (k + 1) flags q (let h = eqb-true (block_address k) q t in omega arith)))
  where
    cut : (t l : Bool) → (t ≡ true → l ≡ false) → l ≡ (not t && (t || l))
    cut true l none = none refl
    cut false l none = refl
among-cleared k (false ∷ flags) zero q =
    let e : k + 0 ≡ k = omega arith in
    rw e (cut (nat_eq (block_address k) q) (is_among q (addresses_from (k + 1) flags)) (λ t. none_below (k + 1) flags q (let h = eqb-true (block_address k) q t in omega arith)))
  where
    cut : (t l : Bool) → (t ≡ true → l ≡ false) → l ≡ (not t && l)
    cut true l none = none refl
    cut false l none = refl
among-cleared k (true ∷ flags) (suc i) q =
    let e : k + suc i ≡ k + 1 + i = omega arith in
    rw e (ap (λ b. nat_eq (block_address k) q || b) (among-cleared (k + 1) flags i q)
    ∙ cut (nat_eq (block_address k) q) (nat_eq (block_address (k + 1 + i)) q) (is_among q (addresses_from (k + 1) flags))
    (λ t. other (block_address (k + 1 + i)) q (λ u. let h = eqb-true (block_address k) q t in omega arith)))
  where
    cut : (t u l : Bool) → (t ≡ true → u ≡ false) → (t || (not u && l)) ≡ (not u && (t || l))
    cut true u l apart = rw (apart refl) refl
    cut false u l apart = refl
among-cleared k (false ∷ flags) (suc i) q =
    let e : k + suc i ≡ k + 1 + i = omega arith in
    rw e (among-cleared (k + 1) flags i q)

-- a flag that is set
among-set : (k : ℕ) (flags : List Bool) (i q : ℕ) → i < length flags → is_among q (addresses_from k (list_set flags i true)) ≡ (nat_eq (block_address (k + i)) q || is_among q (addresses_from k flags))
unfolding addresses_from
among-set k [] i q low = absurd (omega arith)
among-set k (true ∷ flags) zero q low =
    let e : k + 0 ≡ k = omega arith in
    rw e (twice (nat_eq (block_address k) q) (is_among q (addresses_from (k + 1) flags)))
  where
    twice : (t l : Bool) → (t || l) ≡ (t || (t || l))
    twice true l = refl
    twice false l = refl
among-set k (false ∷ flags) zero q low =
    let e : k + 0 ≡ k = omega arith in rw e refl
among-set k (true ∷ flags) (suc i) q low =
    let e : k + suc i ≡ k + 1 + i = omega arith in
    rw e (ap (λ b. nat_eq (block_address k) q || b) (among-set (k + 1) flags i q (omega arith))
    ∙ or-swap (nat_eq (block_address k) q) (nat_eq (block_address (k + 1 + i)) q) (is_among q (addresses_from (k + 1) flags)))
among-set k (false ∷ flags) (suc i) q low =
    let e : k + suc i ≡ k + 1 + i = omega arith in
    rw e (among-set (k + 1) flags i q (omega arith))

-- a block that is taken leaves the set of free addresses
pub free_of-taken : (flags : List Bool) (i : ℕ) → free_of (list_set flags i false) ≡ set.remove (free_of flags) (block_address i)
free_of-taken flags i = same_set nat_cmp_total nat_cmp-IsAntisymmetric _ _ (λ q.
    let e : 0 + i ≡ i = omega arith in
    contains-is_among (list_set flags i false) q
    ∙ rw e at (among-cleared 0 flags i q)
    ∙ ap (λ b. not b && is_among q (addresses_from 0 flags)) (sym (tied q (block_address i)))
    ∙ ap (λ b. not (eq_by_cmp nat_cmp q (block_address i)) && b) (sym (contains-is_among flags q))
    ∙ sym (contains-remove nat_cmp_total (free_of flags) (block_address i) q))

-- one that comes back joins it
pub free_of-given : (flags : List Bool) (i : ℕ) → i < length flags → free_of (list_set flags i true) ≡ set.insert (free_of flags) (block_address i)
free_of-given flags i low = same_set nat_cmp_total nat_cmp-IsAntisymmetric _ _ (λ q.
    let e : 0 + i ≡ i = omega arith in
    contains-is_among (list_set flags i true) q
    ∙ rw e at (among-set 0 flags i q low)
    ∙ ap (λ b. b || is_among q (addresses_from 0 flags)) (sym (tied q (block_address i)))
    ∙ ap (λ b. eq_by_cmp nat_cmp q (block_address i) || b) (sym (contains-is_among flags q))
    ∙ sym (contains-insert nat_cmp_total (free_of flags) (block_address i) q))

-- one that is taken already leaves it as it is
pub taken_already : (flags : List Bool) (i : ℕ) → get_or flags i false ≡ false → set.remove (free_of flags) (block_address i) ≡ free_of flags
taken_already flags i is = sym (free_of-taken flags i) ∙ ap (λ l. free_of l) (rw is at (set-get_or flags i false))

-- and so does one that comes back and is free
pub free_already : (flags : List Bool) (i : ℕ) → i < length flags → get_or flags i false ≡ true → set.insert (free_of flags) (block_address i) ≡ free_of flags
free_already flags i low is = sym (free_of-given flags i low) ∙ ap (λ l. free_of l) (rw is at (set-get_or flags i false))
