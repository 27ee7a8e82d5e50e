use Rattle.std.proofs.Common.{List, ℕ, length, ◌∙◌, ap, sym, arith}
use Rattle.base.specs.formats.Fields.{part}
use Rattle.base.specs.disk.Disk.{bytes_of}
use Rattle.device_model.proofs.Sound.{sound_reads, seen_size}
use Rattle.device_model.proofs.memory.MemDeviceSectorDevice.read.Goals as goal

pub copy_part-requires : goal.copy_part-requires
copy_part-requires c = omega (arith, c.requires.within, seen_size c.self.inside _ c.self.invariant c.self.view_is, ap (λ (l : List ℕ). length l) c.deref.ensures.value)

pub returns-clause-bytes : goal.returns-clause-bytes
returns-clause-bytes c =
    c.copy_part.ensures
    ∙ ap (λ (l : List ℕ). part l c.args.at (length c.args.into.now)) (c.deref.ensures.value ∙ sym (sound_reads c.self.inside c.self.invariant) ∙ ap (λ v. bytes_of v.disk.now) c.self.view_is)
