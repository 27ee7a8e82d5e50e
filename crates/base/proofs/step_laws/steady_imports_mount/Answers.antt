use Rattle.base.proofs.step_laws.steady_imports_mount.Goals as goal
use Rattle.base.proofs.crash.MountLaws.{steady_imports_mount}

pub returns : goal.returns
returns c = steady_imports_mount
