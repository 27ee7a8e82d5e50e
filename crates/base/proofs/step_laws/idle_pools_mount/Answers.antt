use Rattle.base.proofs.step_laws.idle_pools_mount.Goals as goal
use Rattle.base.proofs.stored.HeldMounts.{idle_mounts}

pub returns : goal.returns
returns c = idle_mounts
