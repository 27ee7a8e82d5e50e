use Rattle.std.proofs.Common.{refl}
use Rattle.pool_tables.specs.Shows.{pool_shown}
use Rattle.pool_tables.specs.StepAnswers.{appended_numbers}
use Rattle.pool_tables.specs.Tables.{result_map}
use Rattle.pool_tables.proofs.OfNoDevice.{append_own, map_counts}
use Rattle.pool_core.proofs.state.PoolState.lock_append.Goals as goal

pub returns-clause-unmoved : goal.returns-clause-unmoved
returns-clause-unmoved g c =
    let own = append_own (pool_shown c.args.self.now.pool) (pool_shown c.lock_append.new.self) c.args.owner.0 c.args.object.0 (result_map appended_numbers c.lock_append.result) c.lock_append.ensures.step in
    record { no_call = record { device = refl; own = map_counts appended_numbers c.lock_append.result own }; kept = c.lock_append.ensures.tree }
