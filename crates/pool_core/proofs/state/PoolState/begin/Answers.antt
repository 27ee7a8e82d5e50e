use Rattle.std.proofs.Common.{refl}
use Rattle.pool_tables.specs.Shows.{pool_shown}
use Rattle.pool_tables.specs.StepAnswers.{admitted_numbers}
use Rattle.pool_tables.specs.Tables.{result_map}
use Rattle.pool_tables.proofs.OfNoDevice.{begin_own, map_counts}
use Rattle.pool_core.proofs.state.PoolState.begin.Goals as goal

pub returns-clause-unmoved : goal.returns-clause-unmoved
returns-clause-unmoved g c =
    let own = begin_own (pool_shown c.args.self.now.pool) (pool_shown c.begin.new.self) c.args.owner.0 c.args.plan.now (result_map admitted_numbers c.begin.result) c.begin.ensures.step in
    record { no_call = record { device = refl; own = map_counts admitted_numbers c.begin.result own }; kept = c.begin.ensures.tree }
