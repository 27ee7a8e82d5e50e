use Rattle.std.proofs.lemmas.Result.{IfOk-weaker}
use Rattle.round_trip.proofs.Readings.{length-comes_of_new}
use Rattle.round_trip.proofs.clients.each_round_has_an_answer.Goals as goal

pub returns : goal.returns
returns c =
    IfOk-weaker c.play_rounds.result _ _ (λ r found. length-comes_of_new _ _ 77 7 c.args.rounds.items r.0.items c.args.device.disk c.requires.given_up found) c.play_rounds.ensures.found
