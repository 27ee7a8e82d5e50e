use Rattle.std.proofs.Common.{bit_xor}
use Rattle.hash_lanes.proofs.Vectors.{both}
use Rattle.hash_lanes.proofs.eights.big_sigma1.Goals as goal

pub returns : goal.returns
returns c = both bit_xor (both bit_xor c.rotate.ensures c.rotate-2.ensures) c.rotate-3.ensures
