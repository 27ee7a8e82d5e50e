use Rattle.std.proofs.Common.{subst, sym}
use Rattle.std.proofs.KnownBytes.{Appends-nil}
use Rattle.std.specs.Io.KnownBytes.{Appends}
use Rattle.read_commands.specs.FoundLabels.{config_line}
use Rattle.read_commands.specs.declared.label_states.ConfigState.{ConfigState}
use Rattle.read_commands.proofs.label_states.write_state.Goals as goal

pub returns-in-Whole : goal.returns-in-Whole
returns-in-Whole g c =
    let before = g.W.Write.contents c.args.out.now in
    subst (λ (config : ConfigState). Appends before before (config_line c.args.state.now.label config)) (sym c.in-Whole.is) (Appends-nil before)
