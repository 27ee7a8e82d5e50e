use Rattle.base.proofs.step_laws.held_pools_mount.Goals as goal
use Rattle.base.proofs.stored.HeldMounts.{held_mounts}

pub returns : goal.returns
returns c = held_mounts
