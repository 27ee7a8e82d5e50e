-- Which object a name stands for.
use Rattle.std.proofs.Common.{◌≡◌, ◌≢◌, ℕ, ◌*◌, ◌<◌, ◌≤◌, List, [], ◌∷◌, length, take, refl, ap, sym, ◌∙◌, arith}
use Rattle.std.proofs.lemmas.List.{drop_all}
use Rattle.std.proofs.lemmas.Bool.{cases_lt}
use Rattle.std.proofs.Common.{inl, inr}
use Rattle.object_names.specs.NameTables.{AreDistinct, IsNamed, name_at, slot_at}
use Rattle.object_names.specs.Slots.{name_in}

pub slot_at-past : (bytes : List ℕ) (n : ℕ) → length bytes ≤ 256 * n → slot_at bytes n ≡ []
slot_at-past bytes n past = ap (λ (l : List ℕ). take 256 l) (drop_all (256 * n) bytes past)

name_in-nil : name_in [] ≡ []
unfolding name_in
name_in-nil = refl

-- a slot past the end has no name
pub name_at-past : (bytes : List ℕ) (n : ℕ) → length bytes ≤ 256 * n → name_at bytes n ≡ []
name_at-past bytes n past = ap name_in (slot_at-past bytes n past) ∙ name_in-nil

-- the object of a name has a slot
pub named_there : (bytes : List ℕ) (n : ℕ) (name : List ℕ) → IsNamed bytes n name → 256 * n < length bytes
named_there bytes n name is = elim (cases_lt (256 * n) (length bytes)) [
  | inl there ↦ there
  | inr past ↦ absurd (is.some (sym is.name_is ∙ name_at-past bytes n past))
]

-- no two objects have one name
pub one_number : (bytes : List ℕ) (m n : ℕ) (name : List ℕ) → AreDistinct bytes → IsNamed bytes m name → IsNamed bytes n name → m ≡ n
one_number bytes m n name distinct first second = elim (cases_lt m n) [
  | inl low ↦ absurd (second.some (sym second.name_is ∙ distinct m n first.number low (named_there bytes n name second) (first.name_is ∙ sym second.name_is)))
  | inr rest ↦ elim (cases_lt n m) [
    | inl high ↦ absurd (first.some (sym first.name_is ∙ distinct n m second.number high (named_there bytes m name first) (second.name_is ∙ sym first.name_is)))
    | inr other ↦ omega arith
  ]
]

not_nil : (x : ℕ) (xs : List ℕ) → x ∷ xs ≢ []
not_nil x xs same = cc

-- an object that has no name has no bytes of one
pub unnamed : (bytes : List ℕ) (n : ℕ) → 0 < n → n < 5292 → ((name : List ℕ) → IsNamed bytes n name → ⊥) → name_at bytes n ≡ []
unnamed bytes n low high none = by_bytes (name_at bytes n) refl
  where
    by_bytes : (name : List ℕ) → name_at bytes n ≡ name → name_at bytes n ≡ []
    by_bytes [] same = same
    by_bytes (x ∷ xs) same = absurd (none (x ∷ xs) (record { number = low; few = high; name_is = same; some = not_nil x xs }))

-- a name that no slot has, of those that are there
pub not_named : (bytes name : List ℕ) (count : ℕ) → 256 * count ≡ length bytes
    → ((n : ℕ) → 0 < n → n < count → name_at bytes n ≡ name → ⊥) → (n : ℕ) → IsNamed bytes n name → ⊥
not_named bytes name count size none n is = none n is.number (omega (arith, named_there bytes n name is, size)) is.name_is
