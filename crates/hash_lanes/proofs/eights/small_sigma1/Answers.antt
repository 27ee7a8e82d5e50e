use Rattle.std.proofs.Common.{◌/◌, ◌^◌, bit_xor}
use Rattle.hash_lanes.proofs.Vectors.{both, own, splat}
use Rattle.hash_lanes.proofs.eights.small_sigma1.Goals as goal

pub returns : goal.returns
returns c =
    let shifted = both (λ a b. a / 2 ^ b) (own c.args.x c.fits-x.0) (splat 8 10) in
    both bit_xor (both bit_xor c.rotate.ensures c.rotate-2.ensures) shifted
