use Rattle.std.proofs.Common.{◌≡◌, ℕ, List, ◌∷◌, [], Result, Ok, Err, IfOk, IsErr, get_or, length, take, inl, inr, ap, sym, ◌∙◌, arith, refl}
use Rattle.std.proofs.lemmas.List.{take-take}
use Rattle.object_names.specs.NameTables.{IsNameTable}
use Rattle.object_names.specs.Slots.{header_bytes}
use Rattle.object_names.proofs.clients.an_object_that_begins_otherwise_is_no_table.Goals as goal

err_by : {X Y : Type 0} (r : Result X Y) (P : X → Type 0) (Q : Type 0) → IfOk r (λ x. P x × Q) → (Q → ⊥) → IsErr r
err_by (Ok x) P Q is none = absurd (none is.1)
err_by (Err e) P Q is none = refl

begins : take 1 header_bytes ≡ 116 ∷ []
unfolding header_bytes
begins = refl

other : (bytes : List ℕ) → length bytes ≡ 512 → take 1 bytes ≡ 120 ∷ [] → IsNameTable bytes → ⊥
other bytes size first is = elim is.header [
  | inl none ↦ omega (arith, size, ap length none)
  | inr header ↦
      let same : 120 ∷ [] ≡ 116 ∷ [] = sym first ∙ sym (take-take 1 256 bytes (omega arith)) ∙ ap (λ (l : List ℕ). take 1 l) header ∙ begins in
      let heads : 120 ≡ 116 = ap (λ (l : List ℕ). get_or l 0 0) same in
      omega (arith, heads)
]

pub returns : goal.returns
returns c = err_by c.read.result _ _ c.read.ensures.table (other c.args.bytes c.requires.size c.requires.first)
