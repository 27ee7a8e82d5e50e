use Rattle.std.proofs.Common.{refl, sym, ◌∙◌}
use Rattle.base.specs.declared.step.Step.TheVariants.{Length}
use Rattle.script_lines.specs.declared.command.PoolCommand.TheVariants as pool
use Rattle.script_sessions.proofs.LastLeft.{length_left}
use Rattle.script_sessions.proofs.InPools.{asked_there, same_reply}
use Rattle.script_sessions.proofs.Relations.{of_shared}
use Rattle.script_sessions.specs.SharedPools.{LooksAt}
use Rattle.script_sessions.proofs.clients.a_length_is_of_what_the_last_command_left.Goals as goal

pub returns : goal.returns
returns g c = λ old new n was is told.
    let asked = asked_there (of_shared _) (λ fault n old new. LooksAt old new) c.args.session.now c.run.new.self old new was is (pool.Step (Length (record { 0 = 5 }))) c.run.result (c.run.ensures.answered refl) c.run.ensures.done in
    length_left _ (record { 0 = 5 }) _ n asked.reply old new (same_reply asked.reply _ (sym asked.told_is ∙ told)) asked.made
