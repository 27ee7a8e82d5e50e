use Rattle.script_sessions.proofs.OnDevice.{lost}
use Rattle.script_sessions.proofs.Relations.{of_shared}
use Rattle.scripts.specs.Sessions.{place_in}
use Rattle.script_sessions.proofs.clients.a_crash_has_its_letters.Goals as goal

pub returns : goal.returns
returns g c = λ device was one. lost (of_shared _) c.args.session.now device was c.args.pieces.items c.run.result (place_in c.run.new.self) c.requires one c.run.ensures.done
