use Rattle.std.proofs.Common.{◌≡◌, ◌⊎◌, ℕ, List, [], ◌∷◌, Result, Ok, Err, IfErr, inl, inr, length, map, get_or, take, ap, refl, ◌∙◌, arith}
use Rattle.std.proofs.lemmas.Result.{IfErr-weaker, IfOk-weaker}
use Rattle.base.specs.declared.error.PoolError.{PoolError}
use Rattle.base.specs.declared.error.PoolError.TheVariants.{NoMemory, NoSpace}
use Rattle.base.specs.formats.Geometry.{block_address}
use Rattle.space.proofs.clients.the_lowest_two_of_three_free_blocks_are_found.Goals as goal

two_found : (blocks : List ℕ) → map block_address blocks ≡ block_address 7 ∷ block_address 9 ∷ [] → blocks ≡ 7 ∷ 9 ∷ []
two_found (x ∷ y ∷ []) e =
    let first : block_address x ≡ block_address 7 = ap (λ (l : List ℕ). get_or l 0 0) e in
    let second : block_address y ≡ block_address 9 = ap (λ (l : List ℕ). get_or l 1 0) e in
    let is_7 : x ≡ 7 = omega (arith, first) in
    let is_9 : y ≡ 9 = omega (arith, second) in
    rw (is_7, is_9) refl
two_found [] e = absurd (omega (arith, ap (λ (l : List ℕ). length l) e))
two_found (x ∷ []) e = absurd (omega (arith, ap (λ (l : List ℕ). length l) e))
two_found (x ∷ y ∷ z ∷ zs) e = absurd (omega (arith, ap (λ (l : List ℕ). length l) e))

only_memory : {T : Type 0} (r : Result T PoolError) → IfErr r (λ e. (e ≡ NoSpace) ⊎ (e ≡ NoMemory)) → IfErr r (λ e. e ≡ NoSpace → ⊥) → IfErr r (λ e. e ≡ NoMemory)
only_memory (Ok x) h none = tt
only_memory (Err e) h none = elim h [ inl is ↦ absurd (none is) | inr is ↦ is ]

pub returns-clause-found : goal.returns-clause-found
returns-clause-found c =
    IfOk-weaker c.lowest.result _ _ (λ blocks e. two_found blocks.items (e ∙ ap (λ (l : List ℕ). take 2 l) c.requires)) c.lowest.ensures.lowest

pub returns-clause-enough : goal.returns-clause-enough
returns-clause-enough c =
    let three = ap (λ (l : List ℕ). length l) c.requires in
    only_memory c.lowest.result c.lowest.ensures.refused (IfErr-weaker c.lowest.result _ _ (λ e h is. omega (arith, h is, three)) c.lowest.ensures.full)
