use Rattle.std.proofs.Common.{bit_and, bit_xor}
use Rattle.std.specs.Int.{w32, bit_not}
use Rattle.hash_lanes.proofs.Vectors.{both, each, own}
use Rattle.hash_lanes.proofs.eights.ch.Goals as goal

pub returns : goal.returns
returns c =
    let x = own c.args.x c.fits-x.0 in
    let y = own c.args.y c.fits-y.0 in
    let z = own c.args.z c.fits-z.0 in
    both bit_xor (both bit_and x y) (both bit_and (each (bit_not w32) x) z)
