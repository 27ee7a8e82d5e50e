use Rattle.std.proofs.Common.{◌∙◌, ◌+◌, ap, sym}
use Rattle.pool_tables.proofs.Charges.{short_by, short_of}
use Rattle.pool_tables.proofs.pool.PoolTables.is_short_for.Goals as goal

pub returns-then-available-blocks : goal.returns-then-available-blocks
returns-then-available-blocks c =
    rw (sym c.available-available.ensures)
    (short_of c.args.blocks c.kept_back-kept_back.result _ c.available-available.result (ap (λ n. n + c.kept_back-kept_back.result) c.requires ∙ c.kept_back-kept_back.ensures)
    c.if-available-blocks.true)

pub returns-else-available-blocks : goal.returns-else-available-blocks
returns-else-available-blocks c =
    rw (sym c.available-available.ensures)
    (short_by c.args.blocks c.kept_back-kept_back.result _ c.available-available.result (ap (λ n. n + c.kept_back-kept_back.result) c.requires ∙ c.kept_back-kept_back.ensures)
    c.if-available-blocks.false)
