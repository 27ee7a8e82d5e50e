-- Blocks that are taken from a set of free blocks, one after another.
use Rattle.std.proofs.Common.{◌≡◌, ◌≢◌, ℕ, ◌+◌, ◌*◌, ◌<◌, ◌≤◌, eq-eqb, Bool, true, false, not, nat_eq, ◌&&◌, List, refl, ap, sym, ◌∙◌, arith, ◌⊎◌, inl, inr}
use Rattle.std.specs.Ordering.{nat_cmp}
use Rattle.std.specs.FinSet as set
use Rattle.std.specs.FinSet.{FinSet, contains-remove}
use Rattle.std.proofs.lemmas.Cmp.{nat_cmp_total}
use Rattle.std.proofs.lemmas.Bool.{cases_lt, ne_eqb}
use Rattle.base.specs.formats.Geometry.{block_address}
use Rattle.base.proofs.stored.StoredSets.{tied}
use Rattle.space.specs.FreeSets.{FreeSpace, after_take, is_free}
use Rattle.space_maps.specs.Nodes.{bit_in}
use Rattle.space_maps.specs.Regions.{TakesUsed}

contains-without : (numbers : FinSet nat_cmp) (n q : ℕ) → set.contains (set.remove numbers n) q ≡ (not (nat_eq n q) && set.contains numbers q)
contains-without numbers n q = contains-remove nat_cmp_total numbers n q ∙ ap (λ (b : Bool). not b && set.contains numbers q) (tied q n)

and_false : (a : Bool) → false ≡ (a && false)
and_false true = refl
and_false false = refl

pub and_true : (a : Bool) → a ≡ (a && true)
and_true true = refl
and_true false = refl

pub taken_here : (s : FreeSpace) (i : ℕ) → is_free i (after_take i s) ≡ (is_free i s && false)
taken_here s i =
    contains-without s.free (block_address i) (block_address i)
    ∙ ap (λ (b : Bool). not b && is_free i s) (eq-eqb (block_address i) (block_address i) refl)
    ∙ and_false (is_free i s)

pub taken_other : (s : FreeSpace) (i k : ℕ) → k ≢ i → is_free k (after_take i s) ≡ is_free k s
taken_other s i k ne =
    let apart : block_address i ≢ block_address k = λ same. ne (omega (arith, same)) in
    contains-without s.free (block_address i) (block_address k) ∙ ap (λ (b : Bool). not b && is_free k s) (ne_eqb (block_address i) (block_address k) apart)

pub takes_none : (first : ℕ) (payload : List ℕ) (s : FreeSpace) → TakesUsed first 0 payload s s
takes_none first payload s = record { inside = λ k low. absurd (omega (arith, low)); outside = λ block apart. refl; rest = refl }

-- one block more
pub takes_next : (first n : ℕ) (payload : List ℕ) (old mid new : FreeSpace) → TakesUsed first n payload old mid
    → is_free (first + n) new ≡ (is_free (first + n) mid && bit_in payload n) → ((k : ℕ) → k ≢ first + n → is_free k new ≡ is_free k mid)
    → new ≡ record mid { free = new.free } → TakesUsed first (n + 1) payload old new
takes_next first n payload old mid new before here others rest = record {
  inside = λ k low. inside_at k low (cases_lt k n);
  outside = λ block apart. others block (λ same. away block apart same) ∙ before.outside block (wider block apart);
  rest = rest ∙ ap (λ (s : FreeSpace). record s { free = new.free }) before.rest;
}
  where
    away : (block : ℕ) → (block < first) ⊎ (first + (n + 1) ≤ block) → block ≡ first + n → ⊥
    away block (inl low) same = omega (arith, low, same)
    away block (inr high) same = omega (arith, high, same)

    wider : (block : ℕ) → (block < first) ⊎ (first + (n + 1) ≤ block) → (block < first) ⊎ (first + n ≤ block)
    wider block (inl low) = inl low
    wider block (inr high) = inr (omega (arith, high))

    inside_at : (k : ℕ) → k < n + 1 → (k < n) ⊎ (n ≤ k) → is_free (first + k) new ≡ (is_free (first + k) old && bit_in payload k)
    inside_at k low (inl less) = others (first + k) (λ same. omega (arith, less, same)) ∙ before.inside k less
    inside_at k low (inr more) =
        let e : k ≡ n = omega (arith, low, more) in
        let at : is_free (first + n) mid ≡ is_free (first + n) old = before.outside (first + n) (inr (omega arith)) in
        rw e (here ∙ ap (λ (b : Bool). b && bit_in payload n) at)
