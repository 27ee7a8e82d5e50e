use Rattle.std.proofs.lemmas.Result.{IfErr-weaker, IfOk-weaker}
use Rattle.import_replay_clients.proofs.Promises.{inspected_sound, record_damaged}
use Rattle.import_replay_clients.proofs.reports.a_record_that_cannot_take_place_is_refused.Goals as goal

pub returns-clause-sound : goal.returns-clause-sound
returns-clause-sound g c = λ keeps. IfOk-weaker c.inspect.result _ _ (λ i told. inspected_sound _ i told) (c.inspect.ensures.mounted keeps)

pub returns-clause-damaged : goal.returns-clause-damaged
returns-clause-damaged g c = λ keeps. IfErr-weaker c.inspect.result _ _ (λ e told. record_damaged _ e (told.reason keeps)) c.inspect.ensures.refused
