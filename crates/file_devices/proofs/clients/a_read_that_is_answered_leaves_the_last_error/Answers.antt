use Rattle.file_devices.proofs.ShownDisks.{last_left}
use Rattle.file_devices.proofs.clients.a_read_that_is_answered_leaves_the_last_error.Goals as goal

pub returns : goal.returns
returns g c = last_left c.read.result _ _ _ c.read.ensures.last
