use Rattle.pool_threads.specs.Answers.{state_seen}
use Rattle.pool_threads.proofs.Firsts.{if_ok}
use Rattle.pool_threads_clients.proofs.ObjectClients.{whole_listed}
use Rattle.pool_threads_clients.proofs.answers.an_object_that_is_there_is_listed.Goals as goal

pub returns : goal.returns
returns g c = if_ok _ _ c.objects.result c.objects.ensures.listed (λ list listed. whole_listed (state_seen c.objects.new.self).shown.contents 7 c.args.most list.items listed.objects)
