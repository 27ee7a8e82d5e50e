use Rattle.script_sessions.proofs.OnDevice.{refused_limit}
use Rattle.script_sessions.proofs.Relations.{of_shared}
use Rattle.script_sessions.specs.SharedPools.{LooksAt}
use Rattle.script_sessions.proofs.clients.an_import_without_a_limit_is_a_bad_range.Goals as goal

pub returns : goal.returns
returns g c = λ device e was sized is. refused_limit (of_shared _) (λ fault n old new. LooksAt old new) (λ e none. none) c.args.session.now c.run.new.self device was c.run.result e is sized c.run.ensures.done
