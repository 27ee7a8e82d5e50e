use Rattle.std.proofs.Common.{◌∙◌}
use Rattle.pool_tables.specs.Shows.{pool_shown}
use Rattle.pool_tables_clients.proofs.Callers.{given_up, none_mapped}
use Rattle.pool_tables_clients.proofs.commits.a_transaction_that_is_given_up_has_no_plan.Goals as goal

pub returns : goal.returns
returns c =
    let ended = given_up (pool_shown c.args.pool.now) (pool_shown c.abort.new.self) c.args.tx.0 c.abort.result c.requires c.abort.ensures.step in
    c.is_some.ensures ∙ none_mapped _ c.open_plan.result (rw ended.1 at c.open_plan.ensures)
