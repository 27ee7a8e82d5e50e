-- What a device and a writer hand their calls on to.
use Rattle.read_commands.specs.declared.shown_device.ShownDevice.{ShownDevice}
use Rattle.read_commands.specs.declared.cleared_writer.ClearedWriter.{ClearedWriter}

-- the other device
abbrev pub device_in : {Dev Run : Type 0} → ShownDevice Dev Run → Dev
device_in d = d.device

-- the other writer
abbrev pub writer_in : {Writer Run : Type 0} → ClearedWriter Writer Run → Writer
writer_in w = w.writer
