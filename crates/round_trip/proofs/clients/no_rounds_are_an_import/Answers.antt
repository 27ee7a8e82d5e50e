use Rattle.std.proofs.lemmas.Result.{IfErr-weaker}
use Rattle.round_trip.proofs.Readings.{found_behind_none}
use Rattle.round_trip.proofs.clients.no_rounds_are_an_import.Goals as goal

pub returns-clause-found : goal.returns-clause-found
returns-clause-found c = λ past was.
    IfErr-weaker c.go_rounds.result _ _ (λ e refused. found_behind_none c.new.result.items c.args.device.disk e past c.new.ensures.items was refused) c.go_rounds.ensures.reason
