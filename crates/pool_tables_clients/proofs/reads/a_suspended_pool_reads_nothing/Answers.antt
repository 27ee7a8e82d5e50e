use Rattle.std.proofs.Common.{◌∙◌, ℕ, List, ap}
use Rattle.std.specs.Prelude.{Result}
use Rattle.base.specs.declared.error.PoolError.{PoolError}
use Rattle.base.specs.disk.Calls.{counted}
use Rattle.base.specs.steps.Refusals.{object_range}
use Rattle.pool_tables.specs.Shows.{pool_shown}
use Rattle.pool_tables_clients.proofs.Callers.{refused_read}
use Rattle.pool_tables_clients.proofs.reads.a_suspended_pool_reads_nothing.Goals as goal

pub returns-clause-refused : goal.returns-clause-refused
returns-clause-refused g c = refused_read (pool_shown c.args.pool.now) c.args.owner.0 (object_range 7 1 3) c.read.result c.requires.suspended c.read.ensures.step

pub returns-clause-uncounted : goal.returns-clause-uncounted
returns-clause-uncounted g c =
    let is = refused_read (pool_shown c.args.pool.now) c.args.owner.0 (object_range 7 1 3) c.read.result c.requires.suspended c.read.ensures.step in
    c.read.ensures.reads.count ∙ ap (λ (r : Result (List ℕ) PoolError). counted r (g.B.SectorDevice.refused c.args.reader.now)) is
