use Rattle.std.proofs.Common.{refl}
use Rattle.pool_tables.specs.Shows.{pool_shown}
use Rattle.pool_tables.specs.StepAnswers.{group_number}
use Rattle.pool_tables.specs.Tables.{result_map}
use Rattle.pool_tables.proofs.OfNoDevice.{quiesce_own, map_counts}
use Rattle.pool_core.proofs.state.PoolState.mark_quiesced.Goals as goal

pub returns-clause-unmoved : goal.returns-clause-unmoved
returns-clause-unmoved g c =
    let own = quiesce_own (pool_shown c.args.self.now.pool) (pool_shown c.mark_quiesced.new.self) (result_map group_number c.mark_quiesced.result) c.mark_quiesced.ensures.step in
    record { no_call = record { device = refl; own = map_counts group_number c.mark_quiesced.result own }; kept = c.mark_quiesced.ensures.tree }
