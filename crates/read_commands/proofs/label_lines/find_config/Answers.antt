use Rattle.read_commands.specs.FoundLabels.{state_of}
use Rattle.read_commands.proofs.FoundLabels.{with_reason}
use Rattle.read_commands.proofs.ReadLabels.{none_found}
use Rattle.read_commands.proofs.label_lines.find_config.Goals as goal

pub returns-in-None-clause-state : goal.returns-in-None-clause-state
returns-in-None-clause-state c = with_reason c.args.block.now c.args.size (state_of c.find_reason.result) c.in-None.ensures.none c.find_reason.ensures

pub returns-in-None-clause-config : goal.returns-in-None-clause-config
returns-in-None-clause-config c = none_found c.args.block.now c.args.size c.find_reason.result c.in-None.ensures.none c.find_reason.ensures
