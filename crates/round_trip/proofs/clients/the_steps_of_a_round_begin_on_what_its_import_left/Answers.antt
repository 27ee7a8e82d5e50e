use Rattle.std.proofs.Common.{refl}
use Rattle.round_trip.proofs.Readings.{begin_on_import}
use Rattle.round_trip.proofs.clients.the_steps_of_a_round_begin_on_what_its_import_left.Goals as goal

pub returns : goal.returns
returns c = λ past was.
    let made = c.import_and_run.result in
    begin_on_import 1048576 7 c.args.steps.items made.0 past c.args.device.disk made.1.disk (c.import_and_run.ensures.went refl past was)
