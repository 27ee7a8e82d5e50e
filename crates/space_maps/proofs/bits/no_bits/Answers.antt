use Rattle.std.proofs.Common.{ap, ◌∙◌}
use Rattle.space_maps.specs.Nodes.{bit_in}
use Rattle.space_maps.proofs.PayloadBits.{bit_in-zeros}
use Rattle.space_maps.proofs.bits.no_bits.Goals as goal

pub returns-clause-clear : goal.returns-clause-clear
returns-clause-clear c = λ k. ap (λ l. bit_in l k) c.zero_payload.ensures ∙ bit_in-zeros 4032 k
