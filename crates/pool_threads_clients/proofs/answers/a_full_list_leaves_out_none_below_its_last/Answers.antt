use Rattle.pool_threads.specs.Answers.{state_seen}
use Rattle.pool_threads.proofs.Firsts.{if_ok}
use Rattle.pool_threads_clients.proofs.ObjectClients.{none_left_out}
use Rattle.pool_threads_clients.proofs.answers.a_full_list_leaves_out_none_below_its_last.Goals as goal

pub returns : goal.returns
returns g c = if_ok _ _ c.objects.result c.objects.ensures.listed (λ list listed. none_left_out (state_seen c.objects.new.self).shown.contents 7 c.args.most list.items listed.objects)
