use Rattle.base.proofs.step_laws.own_disks_mount.Goals as goal
use Rattle.base.proofs.crash.MountLaws.{own_disks_mount}

pub returns : goal.returns
returns c = own_disks_mount
