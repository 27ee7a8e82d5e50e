use Rattle.commands.proofs.NamedContents.{new_names_are_written}
use Rattle.commands.proofs.laws.new_names_are_written.Goals as goal

pub returns : goal.returns
returns c = new_names_are_written
