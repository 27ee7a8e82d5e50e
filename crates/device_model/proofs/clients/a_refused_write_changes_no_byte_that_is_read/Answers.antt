use Rattle.device_model.proofs.AfterCalls.{stays_after}
use Rattle.device_model.proofs.clients.a_refused_write_changes_no_byte_that_is_read.Goals as goal

pub returns : goal.returns
returns c = stays_after 512 c.args.bytes.now c.args.device.now.disk c.write.new.self.disk c.write.result c.write.ensures.disk
