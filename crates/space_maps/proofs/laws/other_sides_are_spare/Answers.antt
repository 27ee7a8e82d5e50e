use Rattle.space_maps.proofs.Sides.{other_sides_are_spare}
use Rattle.space_maps.proofs.laws.other_sides_are_spare.Goals as goal

pub returns : goal.returns
returns c = other_sides_are_spare
