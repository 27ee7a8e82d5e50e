use Rattle.pool_threads.specs.Answers.{state_seen}
use Rattle.pool_threads.proofs.Firsts.{if_ok}
use Rattle.pool_threads_clients.proofs.ObjectClients.{few_listed, listed_there}
use Rattle.pool_threads_clients.proofs.answers.a_listed_object_is_there.Goals as goal

pub returns-clause-there : goal.returns-clause-there
returns-clause-there g c = if_ok _ _ c.objects.result c.objects.ensures.listed (λ list listed. listed_there (state_seen c.objects.new.self).shown.contents 7 c.args.most list.items listed.objects)

pub returns-clause-few : goal.returns-clause-few
returns-clause-few g c = if_ok _ _ c.objects.result c.objects.ensures.listed (λ list listed. few_listed (state_seen c.objects.new.self).shown.contents 7 c.args.most list.items listed.objects)
