use Rattle.std.proofs.lemmas.Result.{IfErr-weaker}
use Rattle.read_commands.proofs.Undone.{check_failed}
use Rattle.read_commands.proofs.clients.a_check_is_refused_for_memory_or_a_read.Goals as goal

pub returns : goal.returns
returns g c = IfErr-weaker c.check_opened.result _ _ (λ why failed. check_failed g.D.SectorDevice c.args.device _ why c.requires failed) c.check_opened.ensures.failed
