use Rattle.std.proofs.lemmas.Result.{IfOk-weaker}
use Rattle.import_replay.proofs.FreeBlocks.{all_planned, if_refused, lowest_is_left}
use Rattle.import_replay.proofs.free_blocks.lowest_left.Goals as goal

pub returns-clause-lowest : goal.returns-clause-lowest
returns-clause-lowest c = IfOk-weaker c.take_lowest.result _ _ (λ b first. lowest_is_left c.args.planned.now c.args.spare c.take_planned.new.free c.take_planned.ensures b first) c.take_lowest.ensures.lowest

pub returns-clause-full : goal.returns-clause-full
returns-clause-full c = if_refused c.take_lowest.result _ (λ is. all_planned c.args.planned.now c.args.spare c.take_planned.new.free c.take_planned.ensures (c.take_lowest.ensures.refused.0 is))
