use Rattle.std.proofs.Common.{◌≡◌, List, ℕ, length, ◌∙◌}
use Rattle.std.proofs.lemmas.Result.{on_ok_weaker}
use Rattle.base.specs.formats.Fields.{part}
use Rattle.base.specs.disk.Disk.{bytes_of}
use Rattle.device_model.proofs.AfterCalls.{read_after}
use Rattle.file_devices.proofs.clients.what_is_written_to_a_file_is_read.Goals as goal

pub returns : goal.returns
returns g c =
    let there : List ℕ = part (bytes_of c.write.new.self.disk.now) 512 (length c.args.into.now) in
    let same = read_after 512 (length c.args.into.now) c.args.bytes.now c.args.device.now.disk c.write.new.self.disk (c.in_ok-write.ensures.disk c.requires.keeps) c.requires.same c.requires.on_device.within in
    on_ok_weaker {P = c.read.new.into ≡ there} {Q = c.read.new.into ≡ c.args.bytes.now} c.read.result (λ is. is ∙ same) (c.read.ensures.bytes c.requires.keeps)
