use Rattle.base.specs.declared.range.Range.{Range}
use Rattle.read_commands.specs.Undone.{HasRange, IsGetRefused}
use Rattle.read_commands.proofs.MountedBytes.{never_absent}
use Rattle.read_commands.proofs.ScopedReads.{as_mounted, assured}
use Rattle.read_commands.proofs.Undone.{no_range, refused_if_not}
use Rattle.read_commands.proofs.clients.objects.an_object_that_is_missing_is_got_with_status_1.Goals as goal

pub returns : goal.returns
returns g c = λ keeps contents mounts absent.
    let D = g.D.SectorDevice in
    let get = c.run_get-status in
    let scope = c.args.scope in
    let range : Range = record { low = 1; high = 3 } in
    refused_if_not (IsGetRefused D scope 7 range) (HasRange D scope 7 range) c.args.device get.result.1 get.result.0 get.ensures.undone
    (λ zero. never_absent _ 7 range _ _ contents mounts absent (as_mounted scope _ _ 7 range _ _ keeps (contents, mounts) (get.ensures.written zero)))
    (λ there. let (bytes, mounted) = there (assured scope _ _ keeps (contents, mounts)) in no_range _ 7 range contents mounts absent bytes mounted)
