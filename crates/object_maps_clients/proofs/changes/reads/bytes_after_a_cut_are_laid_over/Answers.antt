use Rattle.std.proofs.Common.{◌≡◌, ℕ, ◌+◌, ◌*◌, List, [], ◌∷◌, length, get_or, Option, Some, refl, ap, ◌∙◌, arith}
use Rattle.std.specs.Prelude.{unwrap_or}
use Rattle.base.proofs.tree.Strips.{record-count}
use Rattle.extents.specs.Tables.{patches_of}
use Rattle.object_maps_clients.proofs.SmallObjects.{cut-three}
use Rattle.object_maps_clients.proofs.changes.reads.bytes_after_a_cut_are_laid_over.Goals as goal

abbrev three : List ℕ
three = 1 ∷ 2 ∷ 3 ∷ []

pub lay_over-requires-clause-index : goal.lay_over-requires-clause-index
lay_over-requires-clause-index c = omega (arith, record-count)

pub returns-clause-first : goal.returns-clause-first
returns-clause-first c =
    let long : length c.lay_over.new.into ≡ 3 = c.lay_over.ensures.size ∙ ap length c.requires.bytes in
    c.lay_over.ensures.bytes (Some three) refl (λ k low. let place : 4032 * 0 + 0 + k ≡ k = omega arith in rw (c.requires.bytes, place) refl) 0 (omega (arith, long))
    ∙ ap (λ (o : Option (List ℕ)). get_or (unwrap_or o []) 0 0) (cut-three (patches_of c.args.extents.now 7) (Some three) c.requires.basis c.requires.written refl)

pub returns-clause-second : goal.returns-clause-second
returns-clause-second c =
    let long : length c.lay_over.new.into ≡ 3 = c.lay_over.ensures.size ∙ ap length c.requires.bytes in
    c.lay_over.ensures.bytes (Some three) refl (λ k low. let place : 4032 * 0 + 0 + k ≡ k = omega arith in rw (c.requires.bytes, place) refl) 1 (omega (arith, long))
    ∙ ap (λ (o : Option (List ℕ)). get_or (unwrap_or o []) 1 0) (cut-three (patches_of c.args.extents.now 7) (Some three) c.requires.basis c.requires.written refl)
