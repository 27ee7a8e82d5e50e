use Rattle.sha2.specs.Sha256.{add32}
use Rattle.hash_lanes.proofs.Vectors.{both, own}
use Rattle.hash_lanes.proofs.eights.add.Goals as goal

pub returns : goal.returns
returns c = both add32 (own c.args.x c.fits-x.0) (own c.args.y c.fits-y.0)
