use Rattle.pool_threads.proofs.FetchesSeen.{was_fetched}
use Rattle.pool_threads.proofs.fetch.fetch_noted.Goals as goal

pub returns-clause-made : goal.returns-clause-made
returns-clause-made g c = was_fetched _ c.args.read.owner c.args.read.object c.args.read.range c.step_noted-bytes.result _ _ (record {
  id = c.in-Ok.id;
  locked = c.step_noted.new.held.view.value;
  locks = c.in-Ok.ensures.stepped;
  read = c.step_noted-bytes.new.held.view.value;
  reads = c.step_noted-bytes.ensures.stepped;
  answer = c.step_noted-2.result;
  unlocks = c.step_noted-2.ensures.stepped;
})
