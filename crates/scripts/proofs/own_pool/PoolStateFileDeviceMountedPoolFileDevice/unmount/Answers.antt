use Rattle.std.proofs.Common.{sym, subst}
use Rattle.pool_core.proofs.crash.SafeMoments.{kept_own}
use Rattle.pool_core.specs.KeptSafe.{on_disk}
use Rattle.pool_core.specs.States.{shown}
use Rattle.base.specs.kept.LeftDisks.{IsLeft}
use Rattle.scripts.proofs.own_pool.PoolStateFileDeviceMountedPoolFileDevice.unmount.Goals as goal

pub returns-clause-left : goal.returns-clause-left
returns-clause-left g c = λ keep past kept. subst (λ d. IsLeft past d.disk) (sym c.into_device.ensures) ((shown c.args.self).guid, kept_own (on_disk c.args.self past) kept)
