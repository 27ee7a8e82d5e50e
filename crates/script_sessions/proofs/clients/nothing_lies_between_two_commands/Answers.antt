use Rattle.std.proofs.Common.{refl, ◌∙◌, ap}
use Rattle.base.specs.declared.step.Step.TheVariants.{CloseGroup, Digest}
use Rattle.script_lines.specs.declared.command.PoolCommand.TheVariants as pool
use Rattle.scripts.specs.Places.{has_pool}
use Rattle.script_sessions.proofs.InPools.{asked_there, pool_there}
use Rattle.script_sessions.proofs.OneTurn.{step_takes_one, two_turns}
use Rattle.device_model.specs.MemState.{MemState}
use Rattle.scripts.specs.declared.place.Place.{Place}
use Rattle.script_sessions.specs.declared.shared_pool.SharedPool.{SharedPool}
use Rattle.script_sessions.specs.SharedPools.{view_in}
use Rattle.script_sessions.proofs.Relations.{of_shared}
use Rattle.script_sessions.specs.SharedPools.{LooksAt}
use Rattle.scripts.specs.Sessions.{place_in}
use Rattle.script_sessions.proofs.clients.nothing_lies_between_two_commands.Goals as goal

pub returns : goal.returns
returns g c = λ old new was is.
    let m = pool_there (place_in c.run.new.self) (c.run.ensures.left ∙ ap (λ (p : Place MemState SharedPool). has_pool p) was) in
    let first = asked_there (of_shared _) (λ fault n old new. LooksAt old new) c.args.session.now c.run.new.self old m.0 was m.1 (pool.Step CloseGroup) c.run.result (c.run.ensures.answered refl) c.run.ensures.done in
    let second = asked_there (of_shared _) (λ fault n old new. LooksAt old new) c.run.new.self c.run-2.new.self m.0 new m.1 is (pool.Step Digest) c.run-2.result (c.run-2.ensures.answered refl) c.run-2.ensures.done in
    (view_in m.0, two_turns old m.0 new (step_takes_one _ _ old m.0 CloseGroup first.reply refl first.made) (step_takes_one _ _ m.0 new Digest second.reply refl second.made))
