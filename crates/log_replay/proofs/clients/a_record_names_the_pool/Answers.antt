use Rattle.std.proofs.lemmas.Result.{IfOk-weaker}
use Rattle.contents.specs.ContentsShown.{contents_of}
use Rattle.log_replay.proofs.Callers.{pool_named}
use Rattle.log_replay.proofs.clients.a_record_names_the_pool.Goals as goal

pub returns : goal.returns
returns c = IfOk-weaker c.replay.result _ _ (λ r is. pool_named (contents_of c.args.synced.now) r (rw c.requires.chain at is)) c.replay.ensures.replayed
