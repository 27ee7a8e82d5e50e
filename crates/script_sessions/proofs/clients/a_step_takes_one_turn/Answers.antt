use Rattle.std.proofs.Common.{refl}
use Rattle.base.specs.declared.step.Step.TheVariants.{CloseGroup}
use Rattle.script_lines.specs.declared.command.PoolCommand.TheVariants as pool
use Rattle.script_sessions.proofs.InPools.{asked_there}
use Rattle.script_sessions.proofs.OneTurn.{one_more, step_takes_one}
use Rattle.script_sessions.proofs.Relations.{of_shared}
use Rattle.script_sessions.specs.SharedPools.{LooksAt}
use Rattle.script_sessions.proofs.clients.a_step_takes_one_turn.Goals as goal

pub returns : goal.returns
returns g c = λ old new was is.
    let asked = asked_there (of_shared _) (λ fault n old new. LooksAt old new) c.args.session.now c.run.new.self old new was is (pool.Step CloseGroup) c.run.result (c.run.ensures.answered refl) c.run.ensures.done in
    one_more old new (step_takes_one _ _ old new CloseGroup asked.reply refl asked.made)
