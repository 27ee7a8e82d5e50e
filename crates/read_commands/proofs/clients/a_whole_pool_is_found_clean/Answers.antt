use Rattle.std.proofs.lemmas.Result.{IfOk-weaker}
use Rattle.read_commands.proofs.Findings.{found_clean}
use Rattle.read_commands.proofs.clients.a_whole_pool_is_found_clean.Goals as goal

pub returns-clause-clean : goal.returns-clause-clean
returns-clause-clean g c = λ keeps. IfOk-weaker c.check_pool.result _ _ (λ finding found contents (u, chain, mounts). found_clean _ u chain contents mounts finding found) (c.check_pool.ensures.found keeps)
