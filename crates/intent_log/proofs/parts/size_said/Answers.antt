use Rattle.intent_log.proofs.LongRecords.{none_of_length}
use Rattle.intent_log.proofs.parts.size_said.Goals as goal

pub returns-then-used-ne-LOG_BLOCK_ROOM-clause-none : goal.returns-then-used-ne-LOG_BLOCK_ROOM-clause-none
returns-then-used-ne-LOG_BLOCK_ROOM-clause-none c = none_of_length c.args.used.now c.if-used-ne-LOG_BLOCK_ROOM.true
