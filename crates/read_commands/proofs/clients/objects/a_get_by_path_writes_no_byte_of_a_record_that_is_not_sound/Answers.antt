use Rattle.std.proofs.Common.{List, Option, ap, refl, subst, ◌∙◌, ℕ}
use Rattle.std.specs.Io.KnownBytes.{Appends}
use Rattle.std.specs.Prelude.{Some}
use Rattle.base.specs.disk.Disk.{bytes_of}
use Rattle.read_commands.proofs.MountedBytes.{appended}
use Rattle.read_commands.proofs.PathReads.{no_unsound_byte}
use Rattle.read_commands.proofs.clients.objects.a_get_by_path_writes_no_byte_of_a_record_that_is_not_sound.Goals as goal

pub returns : goal.returns
returns g c = λ zero keeps unsound empty.
    let w = c.run_get-status.ensures.written zero in
    let after : Option (List ℕ) = g.W.Write.contents c.run_get-status.new.out in
    appended after w.bytes (subst (λ (o : Option (List ℕ)). Appends o after w.bytes) empty w.writes)
    ∙ ap Some (no_unsound_byte (bytes_of (g.D.SectorDevice.disk c.args.device).now) w.bytes (w.checked refl keeps) unsound)
