use Rattle.std.proofs.Common.{refl}
use Rattle.base.proofs.disk.Moments.{weaker}
use Rattle.round_trip.proofs.make.Goals as goal

pub returns-in-Ok-clause-written : goal.returns-in-Ok-clause-written
returns-in-Ok-clause-written g c = λ keeps. (c.in-Ok.ensures.created keeps).written _ (record { size = refl; others = λ i still. refl })

pub returns-in-Ok-clause-goes_on : goal.returns-in-Ok-clause-goes_on
returns-in-Ok-clause-goes_on g c = λ keeps.
    weaker _ (λ m. Unit {0}) (g.D.SectorDevice.disk c.args.device) (g.D.SectorDevice.disk c.in-Ok.device) (λ m here. tt) (c.in-Ok.ensures.outside keeps)
