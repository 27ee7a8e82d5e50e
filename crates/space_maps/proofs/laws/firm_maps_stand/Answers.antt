use Rattle.space_maps.proofs.FirmMaps.{firm_maps_stand}
use Rattle.space_maps.proofs.laws.firm_maps_stand.Goals as goal

pub returns : goal.returns
returns c = firm_maps_stand
