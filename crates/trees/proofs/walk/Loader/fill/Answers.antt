use Rattle.std.proofs.Common.{◌≡◌, ℕ, subst}
use Rattle.std.specs.Prelude.{OnOk}
use Rattle.base.specs.disk.Disk.{bytes_of}
use Rattle.base.specs.formats.Fields.{part}
use Rattle.trees.proofs.walk.Loader.fill.Goals as goal

pub returns-clause-bytes : goal.returns-clause-bytes
returns-clause-bytes g c = λ keeps.
    subst (λ (n : ℕ). OnOk c.read.result (c.read.new.into ≡ part (bytes_of (g.D.SectorDevice.disk c.args.device.now).now) c.args.pointer.now.address n)) c.told-buffer
    (c.read.ensures.bytes keeps)
