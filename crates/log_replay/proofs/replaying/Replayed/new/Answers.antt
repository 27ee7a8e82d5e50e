use Rattle.log_replay.proofs.ReplayedRecords.{nothing_replayed}
use Rattle.log_replay.proofs.replaying.Replayed.new.Goals as goal

pub returns : goal.returns
returns c = λ group contents. nothing_replayed group contents _ c.new.ensures.patches c.new.ensures.name c.new-2.ensures.items
