use Rattle.sha2.specs.Sha256.{initial_hash_256}
use Rattle.hash_lanes.proofs.Messages.{lane-splats}
use Rattle.hash_lanes.proofs.initial_eight.Goals as goal

pub returns : goal.returns
returns c = λ i low. lane-splats 8 i low initial_hash_256
