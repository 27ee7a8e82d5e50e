use Rattle.std.proofs.Common.{◌+◌, refl, ap, ◌∙◌, arith}
use Rattle.space_maps.specs.Nodes.{bit_in, count_true}
use Rattle.space_maps.proofs.PayloadBits.{count_true-next}
use Rattle.space_maps.proofs.bits.count_bits.Goals as goal

pub loop-index-init : goal.loop-index-init
unfolding count_true
loop-index-init c = record { count = refl; most = omega arith }

pub loop-index-preserved : goal.loop-index-preserved
loop-index-preserved c = record {
  count = ap (λ n. n + c.bit_value-count.result) c.loop-index.invariant.count ∙ count_true-next (bit_in c.args.payload.now) c.loop-index.index c.bit_value-count.result c.bit_value-count.ensures.value;
  most = omega (arith, c.loop-index.invariant.most, c.bit_value-count.ensures.most);
}
