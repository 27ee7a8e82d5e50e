use Rattle.std.proofs.Common.{refl}
use Rattle.device_model.specs.declared.fault.Fault.TheVariants.{Read}
use Rattle.script_sessions.proofs.InPools.{planned_there}
use Rattle.script_sessions.proofs.OneTurn.{look_takes_one, one_more}
use Rattle.script_sessions.proofs.Relations.{of_shared}
use Rattle.script_sessions.specs.SharedPools.{LooksAt}
use Rattle.script_sessions.proofs.clients.a_plan_to_fail_takes_one_turn.Goals as goal

pub returns : goal.returns
returns g c = λ old new was is. one_more old new (look_takes_one old new (planned_there (of_shared _) (λ fault n old new. LooksAt old new) c.args.session.now c.run.new.self old new was is Read 1 c.run.result (c.run.ensures.answered refl) c.run.ensures.done))
