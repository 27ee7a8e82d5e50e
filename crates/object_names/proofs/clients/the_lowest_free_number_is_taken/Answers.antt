use Rattle.std.proofs.Common.{◌≡◌, ◌≢◌, ◌≤◌, ℕ, List, [], Option, Some, None, IfSome, IfNone, inl, inr, ap, sym, ◌∙◌, arith}
use Rattle.std.proofs.lemmas.Bool.{cases_eq}
use Rattle.base.specs.declared.names.ObjectId.{ObjectId}
use Rattle.object_names.specs.NameTables.{IsFree, name_at}
use Rattle.object_names.proofs.clients.the_lowest_free_number_is_taken.Goals as goal

second : (bytes : List ℕ) (objects : List (ObjectId × ℕ)) (found : Option ObjectId) → name_at bytes 1 ≢ [] → IsFree bytes objects 2
    → IfSome found (λ n. IsFree bytes objects n.0) → IfSome found (λ n. (k : ℕ) → IsFree bytes objects k → n.0 ≤ k) → IfNone found ((k : ℕ) → IsFree bytes objects k → ⊥)
    → found ≡ Some (record { 0 = 2 })
second bytes objects (Some object) first two free lowest none = elim (cases_eq object.0 1) [
  | inl one ↦ absurd (first (sym (ap (name_at bytes) one) ∙ free.unnamed))
  | inr other ↦
      let low = free.number in
      let high = lowest 2 two in
      ap (λ (k : ℕ). Some (record { 0 = k })) (omega (arith, low, high, other))
]
second bytes objects None first two free lowest none = absurd (none 2 two)

pub returns : goal.returns
returns c =
    second c.args.table.now c.args.objects.now c.free_number.result c.requires.named
    (record { number = omega arith; few = omega arith; unnamed = c.requires.unnamed; absent = c.requires.absent })
    c.free_number.ensures.free c.free_number.ensures.lowest c.free_number.ensures.none
