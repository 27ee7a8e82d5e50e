use Rattle.std.proofs.Common.{refl}
use Rattle.std.proofs.Math.Logic.{∥∥₁_elim, ∥∥₁_map, ∥∥₁_prop}
use Rattle.script_sessions.proofs.clients.a_run_goes_on_to_the_device_that_comes_back.Goals as goal

pub returns : goal.returns
returns g c = λ past run.
    ∥∥₁_elim (c.run_command-after.ensures.kept refl past run) ∥∥₁_prop (λ went.
    ∥∥₁_map (c.unmount.ensures.left refl went.later went.run) (λ left. (went.later, went.goes_on, left)))
