use Rattle.std.proofs.Common.{◌≡◌, false, IfSome, ap, sym, subst, ◌∙◌, arith, inl, inr}
use Rattle.range_locks.specs.Rows.{part_in}
use Rattle.std.proofs.lemmas.Bool.{cases_lt}
use Rattle.range_locks.specs.declared.parts.Part.{Part}
use Rattle.range_locks.specs.Parts.{blocks_part}
use Rattle.range_locks.proofs.Recounts.{free_in}
use Rattle.range_locks.proofs.StoredParts.{part_here}
use Rattle.range_locks.proofs.parts.Parts.blocks.Goals as goal

pub returns-clause-none : goal.returns-clause-none
returns-clause-none c = λ _ f is still.
    free_in c.args.self.now.table f c.args.range.low c.args.range.high c.args.mode is still
    (ap (blocks_part c.args.mode) (sym (c.part_at.ensures f is still)) ∙ sym c.blocks-2.ensures ∙ c.if-blocks.false)
    (λ k from below. elim (cases_lt k c.loop-at.offset) as (λ _. IfSome (part_in c.args.self.now.table k) (λ (p : Part). blocks_part c.args.mode p ≡ false)) [
      | inl before ↦ c.loop-at.invariant.2 k from before
      | inr after ↦ subst (λ o. IfSome o (λ (p : Part). blocks_part c.args.mode p ≡ false)) (sym (c.in_default.ensures.none k after below)) tt
    ])

pub returns-then-blocks-2-clause-some : goal.returns-then-blocks-2-clause-some
returns-then-blocks-2-clause-some c = λ _ f is still. record {
  offset = c.in-Some.at;
  in_range = (omega (arith, c.loop-at.invariant.0, c.in-Some.ensures.within.0), c.in-Some.ensures.within.1);
  blocks = ap (blocks_part c.args.mode) (sym (part_here c.args.self.now.table f is _ _ c.in-Some.ensures.part)) ∙ sym c.blocks-in-Some.ensures ∙ c.if-blocks-2.true;
}
