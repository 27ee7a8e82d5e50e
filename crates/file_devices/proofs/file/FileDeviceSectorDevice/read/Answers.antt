use Rattle.std.proofs.Common.{ap, refl}
use Rattle.file_devices.specs.FileState.{FileState}
use Rattle.file_devices.proofs.file.FileDeviceSectorDevice.read.Goals as goal

pub returns-in-Err-clause-last : goal.returns-in-Err-clause-last
returns-in-Err-clause-last g c = (c.in-Err.cause, refl)

pub returns-clause-last : goal.returns-clause-last
returns-clause-last g c = ap (λ (s : FileState). s.last) c.self.view_is
