use Rattle.std.proofs.lemmas.Result.{IfOk-weaker}
use Rattle.contents.specs.ContentsShown.{contents_of}
use Rattle.tree_blocks.proofs.TreeObjects.{tree_numbered}
use Rattle.log_replay.proofs.Callers.{length_grown}
use Rattle.log_replay.proofs.clients.lengths_follow_the_records.Goals as goal

pub changes_of-requires-clause-numbered : goal.changes_of-requires-clause-numbered
changes_of-requires-clause-numbered c = λ n past. tree_numbered c.args.synced.now.tree n past

pub returns-clause-count : goal.returns-clause-count
returns-clause-count c = IfOk-weaker c.changes_of.result _ _ (λ r is. (rw c.requires.chain at is).0) (c.changes_of.ensures.changes c.args.synced.now.name)

pub returns-clause-length : goal.returns-clause-length
returns-clause-length c =
    IfOk-weaker c.changes_of.result _ _ (λ r is. length_grown (contents_of c.args.synced.now) c.requires.absent r (rw c.requires.chain at is)) (c.changes_of.ensures.changes c.args.synced.now.name)
