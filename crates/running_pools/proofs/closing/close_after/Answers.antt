use Rattle.running_pools.proofs.closing.close_after.Goals as goal

pub returns-in-Some : goal.returns-in-Some
returns-in-Some g c = record { state = c.in-Some.state; ends = c.in-Some.ensures.last; device_is = c.into_device.ensures }
