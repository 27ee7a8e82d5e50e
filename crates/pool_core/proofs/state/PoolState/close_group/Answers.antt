use Rattle.std.proofs.Common.{refl}
use Rattle.pool_tables.specs.Shows.{pool_shown}
use Rattle.pool_tables.specs.StepAnswers.{group_number}
use Rattle.pool_tables.specs.Tables.{result_map}
use Rattle.pool_tables.proofs.OfNoDevice.{close_own, map_counts}
use Rattle.pool_core.proofs.state.PoolState.close_group.Goals as goal

pub returns-clause-unmoved : goal.returns-clause-unmoved
returns-clause-unmoved g c =
    let own = close_own (pool_shown c.args.self.now.pool) (pool_shown c.close_group.new.self) (result_map group_number c.close_group.result) c.close_group.ensures.step in
    record { no_call = record { device = refl; own = map_counts group_number c.close_group.result own }; kept = c.close_group.ensures.tree }
