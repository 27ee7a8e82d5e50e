use Rattle.std.proofs.Common.{◌∙◌, ap}
use Rattle.pool_core.specs.States.{device_of}
use Rattle.pool_threads.proofs.Firsts.{if_err, if_ok}
use Rattle.script_sessions.proofs.Opened.{opens_so, shows_so}
use Rattle.script_sessions.proofs.shared_pool.open.Goals as goal

pub of_state-requires : goal.of_state-requires
of_state-requires c = c.in-Err.ensures.given_back.explains

pub returns-in-Err-clause-opened : goal.returns-in-Err-clause-opened
returns-in-Err-clause-opened c = if_ok _ _ c.of_state.result c.of_state.ensures.opening (λ p is. opens_so _ _ _ _ _ c.in-Err.ensures.given_back _ is)

pub returns-in-Err-clause-shown : goal.returns-in-Err-clause-shown
returns-in-Err-clause-shown c = if_ok _ _ c.of_state.result c.of_state.ensures.opening (λ p is. shows_so _ _ _ _ _ c.in-Err.ensures.given_back _ is)

pub returns-in-Err-clause-refused : goal.returns-in-Err-clause-refused
returns-in-Err-clause-refused c = if_err _ _ c.of_state.result c.of_state.ensures.refused (λ e given. (given.0, ap device_of given.1 ∙ c.in-Err.ensures.given_back.device_is))
