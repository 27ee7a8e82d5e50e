use Rattle.extents.proofs.LaidWithin as within
use Rattle.extents.proofs.laws.objects_stay_within.Goals as goal

pub returns : goal.returns
returns c = within.stay_within
