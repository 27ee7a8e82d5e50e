use Rattle.script_sessions.proofs.LastLeft.{disk_left}
use Rattle.script_sessions.proofs.clients.a_locked_pool_gives_back_the_disk_that_the_last_command_left.Goals as goal

pub returns : goal.returns
returns g c = disk_left c.args.shared c.unmount.result c.unmount.ensures.given
