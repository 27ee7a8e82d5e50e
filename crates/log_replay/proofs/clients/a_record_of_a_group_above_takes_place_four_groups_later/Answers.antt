use Rattle.std.proofs.lemmas.Result.{IfOk-weaker}
use Rattle.contents.specs.ContentsShown.{contents_of}
use Rattle.log_replay.proofs.Callers.{object_created}
use Rattle.log_replay.proofs.clients.a_record_of_a_group_above_takes_place_four_groups_later.Goals as goal

pub returns-clause-object : goal.returns-clause-object
returns-clause-object c =
    IfOk-weaker c.replay.result _ _ (λ r is. object_created (contents_of c.args.synced.now) c.requires.absent r (rw c.requires.chain at is)) c.replay.ensures.replayed
