use Rattle.std.specs.Prelude.{IsTrue}
use Rattle.pool_threads.proofs.FetchesSeen.{fetch_grows}
use Rattle.pool_threads.proofs.OneTurn.{done_by, grown_from}
use Rattle.pool_threads.specs.Fetches.{MakesFetch}
use Rattle.pool_threads.proofs.fetch.fetch_turn.Goals as goal

pub put_back-requires-clause-grows : goal.put_back-requires-clause-grows
put_back-requires-clause-grows g c = grown_from _ _ _ _ c.requires.view (fetch_grows _ c.args.read.owner c.args.read.object c.args.read.range c.fetch_noted-result.result _ _ c.fetch_noted-result.ensures.made)

pub returns-clause-done : goal.returns-clause-done
returns-clause-done g c = done_by (MakesFetch (IsTrue g.D.SectorDevice.keeps_model) c.args.read.owner c.args.read.object c.args.read.range c.fetch_noted-result.result) _ _ _ _ c.requires.view c.fetch_noted-result.ensures.made c.put_back.ensures.freed.1 c.put_back.ensures.turn
