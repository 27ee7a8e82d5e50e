use Rattle.sha2.specs.Sha256.{add32}
use Rattle.hash_lanes.proofs.Vectors.{both, own}
use Rattle.hash_lanes.proofs.eights.word_after.Goals as goal

pub returns : goal.returns
returns c =
    let w16 = own c.args.w16 c.fits-w16.0 in
    let w7 = own c.args.w7 c.fits-w7.0 in
    both add32 (both add32 (both add32 c.small_sigma1.ensures w7) c.small_sigma0.ensures) w16
