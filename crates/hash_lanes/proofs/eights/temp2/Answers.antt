use Rattle.sha2.specs.Sha256.{add32}
use Rattle.hash_lanes.proofs.Vectors.{both}
use Rattle.hash_lanes.proofs.eights.temp2.Goals as goal

pub returns : goal.returns
returns c = both add32 c.big_sigma0.ensures c.maj.ensures
