use Rattle.groups.proofs.NamesApart as names
use Rattle.groups.proofs.laws.open_ones_are_named_apart.Goals as goal

pub returns : goal.returns
returns c = names.open_ones_are_named_apart
