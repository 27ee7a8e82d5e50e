use Rattle.std.proofs.lemmas.Result.{IfOk-weaker}
use Rattle.pool_core.proofs.Callers.{name_told}
use Rattle.pool_core_clients.proofs.steps.the_reply_to_a_name_is_the_name.Goals as goal

pub returns : goal.returns
returns g c = IfOk-weaker c.run.result _ _ (λ replies made. name_told replies.items c.args.pool.now c.run.new.state made) (rw c.requires at c.run.ensures.ran)
