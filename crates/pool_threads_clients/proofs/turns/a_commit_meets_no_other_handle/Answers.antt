use Rattle.std.proofs.Common.{ap, ◌∙◌, ◌∷◌, [], length}
use Rattle.std.proofs.lemmas.List.{length-append}
use Rattle.word_lock.specs.Turns.{turn}
use Rattle.pool_threads.specs.Handles.{turns_of, view_seen}
use Rattle.pool_threads_clients.proofs.turns.a_commit_meets_no_other_handle.Goals as goal

pub returns-clause-split : goal.returns-clause-split
returns-clause-split g c = c.commit.ensures.made.made.met_none.0

pub returns-clause-joined : goal.returns-clause-joined
returns-clause-joined g c = c.commit.ensures.made.made.met_none.1

pub returns-clause-turns : goal.returns-clause-turns
returns-clause-turns g c =
    let made = c.commit.ensures.made.made in
    ap length made.turn ∙ length-append (turns_of c.args.handle.now) (turn made.took (view_seen c.commit.new.self) ∷ [])
