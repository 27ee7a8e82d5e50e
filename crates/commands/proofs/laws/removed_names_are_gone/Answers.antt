use Rattle.commands.proofs.NamedContents.{removed_names_are_gone}
use Rattle.commands.proofs.laws.removed_names_are_gone.Goals as goal

pub returns : goal.returns
returns c = removed_names_are_gone
