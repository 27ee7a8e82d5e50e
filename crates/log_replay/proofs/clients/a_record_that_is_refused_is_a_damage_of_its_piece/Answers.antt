use Rattle.std.proofs.lemmas.Result.{IfErr-weaker}
use Rattle.contents.specs.ContentsShown.{contents_of}
use Rattle.log_replay.proofs.Callers.{creation_reported}
use Rattle.log_replay.proofs.clients.a_record_that_is_refused_is_a_damage_of_its_piece.Goals as goal

pub returns-clause-address : goal.returns-clause-address
returns-clause-address c =
    IfErr-weaker c.replay.result _ _ (λ e is. creation_reported (contents_of c.args.synced.now) c.requires.there e (rw c.requires.chain at is)) c.replay.ensures.refused
