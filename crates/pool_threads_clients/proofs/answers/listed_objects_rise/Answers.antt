use Rattle.pool_threads.specs.Answers.{state_seen}
use Rattle.pool_threads.proofs.Firsts.{if_ok}
use Rattle.pool_threads_clients.proofs.ObjectClients.{listed_rise}
use Rattle.pool_threads_clients.proofs.answers.listed_objects_rise.Goals as goal

pub returns : goal.returns
returns g c = if_ok _ _ c.objects.result c.objects.ensures.listed (λ list listed. listed_rise (state_seen c.objects.new.self).shown.contents c.args.from.0 c.args.most list.items listed.objects)
