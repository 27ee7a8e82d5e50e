use Rattle.script_sessions.proofs.LastLeft.{crash_takes}
use Rattle.script_sessions.proofs.Relations.{of_shared}
use Rattle.scripts.specs.Sessions.{place_in}
use Rattle.script_sessions.proofs.clients.a_crash_takes_the_disk_that_the_last_command_left.Goals as goal

pub returns : goal.returns
returns g c = λ old device was is. crash_takes (of_shared _) (λ shared device it. it) c.args.session.now old was c.args.pieces.items c.run.result (place_in c.run.new.self) device c.requires is c.run.ensures.done
