use Rattle.std.proofs.lemmas.Result.{IfOk-weaker}
use Rattle.read_commands.proofs.CheckedAll.{clean_alone}
use Rattle.read_commands.proofs.clients.all_checks.a_whole_pool_has_no_damage.Goals as goal

pub returns-clause-clean : goal.returns-clause-clean
returns-clause-clean g c = λ keeps. IfOk-weaker c.check_to_end.result _ _ (λ list found contents mounts. clean_alone _ list.items found contents mounts) (c.check_to_end.ensures.found keeps)
