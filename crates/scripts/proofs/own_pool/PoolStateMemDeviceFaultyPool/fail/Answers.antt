use Rattle.std.proofs.Common.{sym, subst}
use Rattle.pool_core.specs.KeptSafe.{IsKeptSafe}
use Rattle.scripts.proofs.own_pool.PoolStateMemDeviceFaultyPool.fail.Goals as goal

pub returns-clause-kept : goal.returns-clause-kept
returns-clause-kept g c = λ past kept. subst (λ f. IsKeptSafe (f past)) (sym c.fail.ensures.disk) kept
