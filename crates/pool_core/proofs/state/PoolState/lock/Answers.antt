use Rattle.std.proofs.Common.{refl}
use Rattle.base.specs.steps.Refusals.{object_range}
use Rattle.pool_tables.specs.Shows.{pool_shown}
use Rattle.pool_tables.specs.StepAnswers.{lock_number}
use Rattle.pool_tables.specs.Tables.{result_map}
use Rattle.pool_tables.proofs.OfNoDevice.{lock_own, map_counts}
use Rattle.pool_core.proofs.state.PoolState.lock.Goals as goal

pub returns-clause-unmoved : goal.returns-clause-unmoved
returns-clause-unmoved g c =
    let own = lock_own (pool_shown c.args.self.now.pool) (pool_shown c.lock.new.self) c.args.owner.0 (object_range c.args.object.0 c.args.range.low c.args.range.high) c.args.mode (result_map lock_number c.lock.result) c.lock.ensures.step in
    record { no_call = record { device = refl; own = map_counts lock_number c.lock.result own }; kept = c.lock.ensures.tree }
