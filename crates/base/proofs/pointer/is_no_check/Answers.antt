use Rattle.std.proofs.Common.{◌≡◌, ◌*◌, ap, arith, inl, inr, refl, sym, ◌∙◌, true≢false}
use Rattle.std.proofs.lemmas.Bool.{cases_lt}
use Rattle.base.specs.formats.Fields.{number_at}
use Rattle.base.proofs.formats.EmptyChecks.{words_zeros, zeros_words}
use Rattle.base.proofs.pointer.is_no_check.Goals as goal

pub loop-word-init : goal.loop-word-init
loop-word-init c = λ k low. absurd (omega (arith, low))

pub loop-word-preserved : goal.loop-word-preserved
loop-word-preserved c = λ k low. elim (cases_lt k c.loop-word.word) [
  | inl before ↦ c.loop-word.invariant k before
  | inr last ↦
      let same : k ≡ c.loop-word.word = omega (arith, low, last) in
      ap (λ j. number_at c.args.check.now (8 * j)) same ∙ sym c.read_u64.ensures ∙ c.if-read_u64-ne0.false
]

pub returns-then-read_u64-ne0 : goal.returns-then-read_u64-ne0
returns-then-read_u64-ne0 c = (
  λ t. absurd (true≢false (sym t)),
  λ zeros. absurd (c.if-read_u64-ne0.true
      (c.read_u64.ensures ∙ ap (λ xs. number_at xs (8 * c.loop-word.word)) zeros ∙ zeros_words c.loop-word.word c.loop-word-test.true)),
)

pub returns : goal.returns
returns c = (λ t. words_zeros c.args.check.now c.told-check c.fits-check (λ k low. c.loop-word.invariant k (omega (arith, low, c.loop-word-test.false))), λ zeros. refl)
