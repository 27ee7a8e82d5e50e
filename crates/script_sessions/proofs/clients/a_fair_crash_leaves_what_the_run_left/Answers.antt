use Rattle.script_sessions.proofs.LastLeft.{crash_leaves}
use Rattle.script_sessions.proofs.Relations.{of_shared}
use Rattle.scripts.specs.Sessions.{place_in}
use Rattle.script_sessions.proofs.clients.a_fair_crash_leaves_what_the_run_left.Goals as goal

pub returns : goal.returns
returns g c = λ old past was run ok fair. crash_leaves (of_shared _) (λ shared device it. it) c.args.session.now old was c.args.pieces.items c.run.result (place_in c.run.new.self) past ok run fair c.run.ensures.done
