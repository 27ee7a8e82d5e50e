use Rattle.std.proofs.Math.Logic.{∥∥₁_map}
use Rattle.pool_threads.proofs.Firsts.{if_ok}
use Rattle.pool_threads_clients.proofs.answers.a_digest_is_that_of_contents_in_between.Goals as goal

pub returns-clause-digest : goal.returns-clause-digest
returns-clause-digest g c = λ keeps. if_ok _ _ c.digest.result (c.digest.ensures.digest keeps) (λ d seen. ∥∥₁_map seen (λ x. (x.0, x.1.count, x.1.no_shorter, x.1.no_longer, x.1.replayed, x.2)))

pub returns-clause-one_turn : goal.returns-clause-one_turn
returns-clause-one_turn g c = let made = c.digest.ensures.made.made in (made.took, made.turn, made.met_none)
