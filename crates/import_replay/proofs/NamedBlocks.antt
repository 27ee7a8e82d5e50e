-- Whether a pointer of a tree has an address can be found out, since a tree has finitely many places.
use Rattle.std.proofs.Common.{◌≡◌, ◌⊎◌, inl, inr, ℕ, zero, suc, ◌<◌, Bool, true, false, refl, sym, ◌∙◌, subst, arith}
use Rattle.std.specs.Prelude.{◌==◌}
use Rattle.std.proofs.lemmas.Bool.{eq-eqb, eqb-true, false≢true}
use Rattle.base.specs.declared.pointer.Pointer.{Pointer}
use Rattle.base.specs.formats.Limits.{indirect_count, object_count, pointer_count}
use Rattle.base.specs.tree.Places.{Place, IsPlace}
use Rattle.base.specs.tree.Places.Place.{Root, Directory, Top, Indirect, Data}
use Rattle.import_replay.specs.FreeBlocks.{IsNamed}

-- a fact or its contrary
abbrev IsKnown : Type 0 → Type 0
IsKnown P = P ⊎ (P → ⊥)

-- one of the numbers below n has what each number has or has not, or none has it
some_below : (n : ℕ) (P : ℕ → Type 0) → ((i : ℕ) → IsKnown (P i)) → ((i : ℕ) × (i < n) × P i) ⊎ ((i : ℕ) → i < n → P i → ⊥)
some_below zero P each = inr (λ i low h. omega (arith, low))
some_below (suc n) P each = elim (each n) as (λ _. ((i : ℕ) × (i < suc n) × P i) ⊎ ((i : ℕ) → i < suc n → P i → ⊥)) [
  | inl here ↦ inl (n, omega arith, here)
  | inr not_here ↦ (elim (some_below n P each) as (λ _. ((i : ℕ) × (i < suc n) × P i) ⊎ ((i : ℕ) → i < suc n → P i → ⊥)) [
    | inl below ↦ inl (below.0, (let low = below.1 in omega (arith, low)), below.2)
    | inr none ↦ inr (by_last none not_here)
  ])
]
  where
    by_last : ((i : ℕ) → i < n → P i → ⊥) → (P n → ⊥) → (i : ℕ) → i < suc n → P i → ⊥
    by_last none not_here i low h = at (i == n) refl
      where
        at : (b : Bool) → (i == n) ≡ b → ⊥
        at true is = not_here (subst P (eqb-true i n is) h)
        at false is = none i (let apart : i ≡ n → ⊥ = λ same. false≢true (sym is ∙ eq-eqb i n same) in omega (arith, low, apart)) h

known_below : (n : ℕ) (P : ℕ → Type 0) → ((i : ℕ) → IsKnown (P i)) → IsKnown ((i : ℕ) × (i < n) × P i)
known_below n P each = elim (some_below n P each) as (λ _. IsKnown ((i : ℕ) × (i < n) × P i)) [
  | inl found ↦ inl found
  | inr none ↦ inr (λ found. none found.0 found.1 found.2)
]

-- one of two known facts holds, or neither does
known_either : (P Q : Type 0) → IsKnown P → IsKnown Q → IsKnown (P ⊎ Q)
known_either P Q (inl p) q = inl (inl p)
known_either P Q (inr none) (inl q) = inl (inr q)
known_either P Q (inr none) (inr no_other) = inr (λ h. elim h as (λ _. ⊥) [
  | inl p ↦ none p
  | inr q ↦ no_other q
])

module _ (pointers : Place → Pointer) (address : ℕ) where
  abbrev HasAddress : Place → Type 0
  HasAddress place = (pointers place).address ≡ address

  known_at : (place : Place) → IsKnown (HasAddress place)
  known_at place = by ((pointers place).address == address) refl
    where
      by : (b : Bool) → ((pointers place).address == address) ≡ b → IsKnown ((pointers place).address ≡ address)
      by true is = inl (eqb-true (pointers place).address address is)
      by false is = inr (λ same. false≢true (sym is ∙ eq-eqb (pointers place).address address same))

  -- by the kind of place
  abbrev ByKind : Type 0
  ByKind =
      HasAddress Root ⊎ (((d : ℕ) × (d < pointer_count) × HasAddress (Directory d)) ⊎ (((n : ℕ) × (n < object_count) × HasAddress (Top n)) ⊎ (((m : ℕ) × (m < indirect_count) × HasAddress (Indirect m))
      ⊎ ((m : ℕ) × (m < indirect_count) × ((k : ℕ) × (k < pointer_count) × HasAddress (Data m k))))))

  by_kind : ByKind → IsNamed pointers address
  by_kind (inl root) = (Root, tt, root)
  by_kind (inr (inl d)) = (Directory d.0, d.1, d.2)
  by_kind (inr (inr (inl n))) = (Top n.0, n.1, n.2)
  by_kind (inr (inr (inr (inl m)))) = (Indirect m.0, m.1, m.2)
  by_kind (inr (inr (inr (inr r)))) = (Data r.0 r.2.0, (r.1, r.2.1), r.2.2)

  kind_of_named : (place : Place) → IsPlace place → HasAddress place → ByKind
  kind_of_named Root in_range h = inl h
  kind_of_named (Directory d) in_range h = inr (inl (d, in_range, h))
  kind_of_named (Top n) in_range h = inr (inr (inl (n, in_range, h)))
  kind_of_named (Indirect m) in_range h = inr (inr (inr (inl (m, in_range, h))))
  kind_of_named (Data m k) in_range h = inr (inr (inr (inr (m, in_range.0, (k, in_range.1, h)))))

  known_by_kind : IsKnown ByKind
  known_by_kind =
      known_either _ _ (known_at Root) (known_either _ _ (known_below pointer_count (λ d. HasAddress (Directory d)) (λ d. known_at (Directory d)))
      (known_either _ _ (known_below object_count (λ n. HasAddress (Top n)) (λ n. known_at (Top n)))
      (known_either _ _ (known_below indirect_count (λ m. HasAddress (Indirect m)) (λ m. known_at (Indirect m)))
      (known_below indirect_count (λ m. (k : ℕ) × (k < pointer_count) × HasAddress (Data m k)) (λ m. known_below pointer_count (λ k. HasAddress (Data m k)) (λ k. known_at (Data m k)))))))

  -- some place has the address, or none has
  pub named_or_not : IsNamed pointers address ⊎ (IsNamed pointers address → ⊥)
  named_or_not = elim known_by_kind as (λ _. IsNamed pointers address ⊎ (IsNamed pointers address → ⊥)) [
    | inl found ↦ inl (by_kind found)
    | inr none ↦ inr (λ named. none (kind_of_named named.0 named.1 named.2))
  ]
