use Rattle.std.proofs.Common.{arith}
use Rattle.read_commands.specs.declared.label_states.ConfigState.TheVariants.{Whole}
use Rattle.read_commands.proofs.FoundLabels.{next_state}
use Rattle.read_commands.proofs.label_states.write_all.Goals as goal

pub loop-state-preserved : goal.loop-state-preserved
loop-state-preserved g c =
    let (front, written, left) = c.loop-state.invariant in
    next_state c.args.states.now c.loop-state.state-index (record { label = 0; config = Whole }) (g.W.Write.contents c.args.out.now) (g.W.Write.contents c.loop-state.out)
    (g.W.Write.contents c.write_state.new.out) front (let low = c.loop-state-test.true in let four = c.told-states in omega (arith, low, four)) written left c.in-Ok.ensures
