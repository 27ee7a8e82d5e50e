use Rattle.std.proofs.Common.{◌/◌, ◌*◌, ◌-◌, ◌%◌, ◌^◌, bit_or}
use Rattle.hash_lanes.proofs.Vectors.{both, own, rotate_right-shifts, spelled, splat}
use Rattle.hash_lanes.proofs.rounds.rotate.Goals as goal

pub returns : goal.returns
returns c =
    let x = own c.args.x c.fits-x.0 in
    let right = both (λ a b. a / 2 ^ b) x (splat 4 c.args.k) in
    let left = both (λ a b. a * 2 ^ b % 2 ^ 32) x (splat 4 (32 - c.args.k)) in
    spelled _ (both bit_or right left) (λ i h. rotate_right-shifts _ c.args.k c.requires.low c.requires.high)
