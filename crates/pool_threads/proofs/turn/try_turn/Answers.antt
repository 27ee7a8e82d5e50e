use Rattle.std.proofs.Common.{rules}
use Rattle.pool_threads.proofs.Made.{made_by, made_there}
use Rattle.pool_threads.proofs.turn.try_turn.Goals as goal

pub returns-clause-made : goal.returns-clause-made
returns-clause-made g c =
    let held = c.in-Some.ensures.held in
    let done = c.turn.ensures in
    made_there _ _ _ _ (search rules) (made_by _ _ _ _ _ _ held.1 held.2 held.4 held.5 done.stepped)
