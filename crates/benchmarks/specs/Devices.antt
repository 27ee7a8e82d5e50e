-- A device that counts its flushes.
use Rattle.benchmarks.specs.declared.counted_device.CountedDevice.{CountedDevice}

-- the other device
abbrev pub device_in : {Dev : Type 0} → CountedDevice Dev → Dev
device_in c = c.device
