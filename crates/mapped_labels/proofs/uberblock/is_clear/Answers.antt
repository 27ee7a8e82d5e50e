use Rattle.std.proofs.Common.{ℕ, ap, replicate, sym, ◌∙◌, arith}
use Rattle.base.proofs.disk.Put.{length-part}
use Rattle.uberblocks.specs.Slots.{zeros}
use Rattle.mapped_labels.proofs.uberblock.is_clear.Goals as goal

pub returns : goal.returns
unfolding zeros
returns c =
    let long = ap (λ (n : ℕ). replicate n 0) (length-part 168 3896 c.args.bytes.now (omega arith)) in
    (λ yes. c.are_zeros.ensures.0 yes ∙ long, λ clear. c.are_zeros.ensures.1 (clear ∙ sym long))
