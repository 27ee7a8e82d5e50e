use Rattle.space_maps.proofs.TreeBits.{maps_follow}
use Rattle.space_maps.proofs.laws.maps_follow.Goals as goal

pub returns : goal.returns
returns c = maps_follow
