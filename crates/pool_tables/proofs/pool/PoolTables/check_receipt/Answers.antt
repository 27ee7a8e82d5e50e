use Rattle.std.proofs.Common.{sym, ◌∙◌}
use Rattle.pool_tables.proofs.Receipts.{is_receipt-unsynced, known_receipt, unknown_receipt}
use Rattle.pool_tables.specs.Shows.{pool_shown}
use Rattle.pool_tables.proofs.pool.PoolTables.check_receipt.Goals as goal

pub returns-then-not-is_unsynced : goal.returns-then-not-is_unsynced
returns-then-not-is_unsynced c =
    let pool = c.args.self.now in
    let loose = sym c.durable.ensures ∙ c.if-durable.false in
    let is = is_receipt-unsynced c.args.receipt (pool_shown pool) loose pool.logged in
    unknown_receipt c.args.receipt (pool_shown pool) c.is_unsynced.result loose c.in_ok-check_running.ensures (is ∙ sym c.is_unsynced.ensures) c.if-not-is_unsynced.true

pub returns : goal.returns
returns c =
    let pool = c.args.self.now in
    let loose = sym c.durable.ensures ∙ c.if-durable.false in
    let is = is_receipt-unsynced c.args.receipt (pool_shown pool) loose pool.logged in
    known_receipt c.args.receipt (pool_shown pool) c.is_unsynced.result loose c.in_ok-check_running.ensures (is ∙ sym c.is_unsynced.ensures) c.if-not-is_unsynced.false
