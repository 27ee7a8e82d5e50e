use Rattle.read_commands.proofs.MountedBytes.{two_bytes_written}
use Rattle.read_commands.proofs.ScopedReads.{as_mounted}
use Rattle.read_commands.proofs.clients.objects.a_get_writes_the_bytes_that_the_image_mounts.Goals as goal

pub returns : goal.returns
returns g c = λ zero keeps contents mounts there empty.
    two_bytes_written _ _ _ contents mounts there empty (as_mounted c.args.scope _ _ 7 _ _ _ keeps (contents, mounts) (c.run_get-status.ensures.written zero))
