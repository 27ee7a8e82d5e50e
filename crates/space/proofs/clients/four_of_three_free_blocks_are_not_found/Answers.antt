use Rattle.std.proofs.Common.{ℕ, List, Result, Ok, Err, IfOk, IsErr, length, take, ap, refl, ◌∙◌, arith}
use Rattle.std.proofs.lemmas.List.{length-map}
use Rattle.base.specs.formats.Geometry.{block_address}
use Rattle.space.proofs.clients.four_of_three_free_blocks_are_not_found.Goals as goal

not_ok : {T E : Type 0} (r : Result T E) (P Q : T → Type 0) → ((x : T) → P x → Q x → ⊥) → IfOk r P → IfOk r Q → IsErr r
not_ok (Ok x) P Q never p q = absurd (never x p q)
not_ok (Err e) P Q never p q = refl

pub returns : goal.returns
returns c =
    not_ok c.lowest.result _ _
    (λ blocks e count. omega (arith, count, length-map blocks.items block_address, ap (λ (l : List ℕ). length l) (e ∙ ap (λ (l : List ℕ). take 4 l) c.requires)))
    c.lowest.ensures.lowest c.lowest.ensures.count
