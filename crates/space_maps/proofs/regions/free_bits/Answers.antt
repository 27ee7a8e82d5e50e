use Rattle.std.proofs.Common.{◌≡◌, ℕ, inl, inr, ◌∙◌, arith}
use Rattle.std.proofs.lemmas.Bool.{cases_lt}
use Rattle.space_maps.proofs.regions.free_bits.Goals as goal

pub loop-index-preserved : goal.loop-index-preserved
loop-index-preserved c = record {
  size = c.put_bit.ensures.size;
  bits = λ k low. elim (cases_lt k c.loop-index.index) [
    | inl less ↦ c.put_bit.ensures.others k (λ same. omega (arith, less, same)) ∙ c.loop-index.invariant.bits k less
    | inr more ↦ let e : k ≡ c.loop-index.index = omega (arith, low, more) in rw e (c.put_bit.ensures.here ∙ c.is_free.ensures)
  ];
}
