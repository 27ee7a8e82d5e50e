use Rattle.std.proofs.Common.{bit_and, bit_xor, slice_index}
use Rattle.hash_lanes.proofs.Majority.{maj_short}
use Rattle.hash_lanes.proofs.Vectors.{both, own, spelled}
use Rattle.hash_lanes.proofs.eights.maj.Goals as goal

pub returns : goal.returns
returns c =
    let x = own c.args.x c.fits-x.0 in
    let y = own c.args.y c.fits-y.0 in
    let z = own c.args.z c.fits-z.0 in
    spelled _ (both bit_xor y (both bit_and (both bit_xor x y) (both bit_xor y z))) (λ i h.
    maj_short (slice_index c.args.x i) (slice_index c.args.y i) (slice_index c.args.z i))
