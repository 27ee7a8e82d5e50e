use Rattle.sha2.specs.Sha256.{add32}
use Rattle.hash_lanes.proofs.Vectors.{both, own, splat}
use Rattle.hash_lanes.proofs.eights.temp1.Goals as goal

pub returns : goal.returns
returns c =
    let h = own c.args.h c.fits-h.0 in
    let word = own c.args.word c.fits-word.0 in
    both add32 (both add32 (both add32 (both add32 h c.big_sigma1.ensures) c.ch.ensures) (splat 8 c.args.k)) word
