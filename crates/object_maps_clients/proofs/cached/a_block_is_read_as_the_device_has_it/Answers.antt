use Rattle.std.proofs.Common.{ℕ, List, inl, inr, sym}
use Rattle.std.specs.Coded.{Coded-set, coded_list, coded_ℕ}
use Rattle.std.proofs.Math.Logic.{∥∥₁_elim}
use Rattle.std.proofs.lemmas.Result.{on_ok_weaker}
use Rattle.base.specs.disk.Disk.{bytes_of}
use Rattle.base.specs.formats.Blocks.{payload_at}
use Rattle.object_maps_clients.proofs.cached.a_block_is_read_as_the_device_has_it.Goals as goal

pub returns : goal.returns
returns g c =
    let payload : List ℕ = payload_at (bytes_of (g.D.SectorDevice.disk c.args.device.now.device).now) c.args.pointer.now.address in
    on_ok_weaker c.read_payload.result (λ taken. elim taken [
      | inl there ↦ ∥∥₁_elim c.args.device.now.agrees (Coded-set (coded_list coded_ℕ) c.read_payload.new.into payload) (λ agrees. (agrees c.requires.keeps c.args.pointer.now.address c.read_payload.new.into there).1)
      | inr opens ↦ sym opens.block.payload_is
    ]) (c.read_payload.ensures.taken c.requires.keeps)
