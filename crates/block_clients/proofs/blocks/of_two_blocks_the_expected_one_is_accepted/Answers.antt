use Rattle.std.proofs.Common.{◌≡◌, Bool, true, false, List, [], ◌∷◌, refl}
use Rattle.std.proofs.lemmas.Result.{IfOk-weaker}
use Rattle.base.specs.formats.Blocks.{IsSealed}
use Rattle.checked_blocks.specs.Judged.{AreJudged}
use Rattle.checked_blocks.specs.Opening.{IsExpected}
use Rattle.checked_blocks.specs.declared.payload.ReadBlock.{ReadBlock}
use Rattle.block_clients.proofs.blocks.of_two_blocks_the_expected_one_is_accepted.Goals as goal

-- of two blocks the first one is expected, and the second one isn't
two_judged : (a b : ReadBlock) (found : List Bool) → AreJudged (a ∷ b ∷ []) found → IsExpected a.block.now a.expected.now → (IsSealed b.block.now → ⊥) → found ≡ true ∷ false ∷ []
two_judged a b (true ∷ false ∷ []) h e n = refl
two_judged a b (true ∷ true ∷ []) h e n = absurd (n (h.1.0.0 refl).agrees)
two_judged a b (false ∷ y ∷ []) h e n = absurd (let is = h.0.1 e in cc)
two_judged a b [] h e n = absurd h
two_judged a b (x ∷ []) h e n = absurd h.1
two_judged a b (x ∷ y ∷ z ∷ zs) h e n = absurd h.1.1

pub returns : goal.returns
returns c =
    let a = c.args in
    IfOk-weaker c.open_all.result _ _
    (λ found h. two_judged (record { block = a.block; expected = a.expected }) (record { block = a.other; expected = a.expected }) found.items h c.requires.expected c.requires.damaged)
    c.open_all.ensures
