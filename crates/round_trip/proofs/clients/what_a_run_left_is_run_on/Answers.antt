use Rattle.std.proofs.Common.{refl}
use Rattle.round_trip.proofs.Readings.{length-over, pool_found}
use Rattle.round_trip.proofs.clients.what_a_run_left_is_run_on.Goals as goal

pub returns-clause-steps : goal.returns-clause-steps
returns-clause-steps c = λ past was.
    let made = c.import_and_run.result in
    length-over 1048576 7 c.args.steps.items made.0 past c.args.device.disk made.1.disk (c.import_and_run.ensures.went refl past was)

pub returns-clause-found : goal.returns-clause-found
returns-clause-found c = λ past was.
    let made = c.import_and_run.result in
    pool_found 1048576 7 c.args.steps.items made.0 past c.args.device.disk made.1.disk (c.import_and_run.ensures.went refl past was)
