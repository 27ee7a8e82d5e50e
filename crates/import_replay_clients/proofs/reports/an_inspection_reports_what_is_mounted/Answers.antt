use Rattle.std.proofs.lemmas.Result.{IfErr-weaker, IfOk-weaker}
use Rattle.import_replay_clients.proofs.Promises.{mounted_found, told_of}
use Rattle.import_replay_clients.proofs.reports.an_inspection_reports_what_is_mounted.Goals as goal

pub returns-clause-reported : goal.returns-clause-reported
returns-clause-reported g c = λ keeps. IfOk-weaker c.inspect.result _ _ (λ i told u chain contents mounts. told_of _ u chain contents mounts i told) (c.inspect.ensures.mounted keeps)

pub returns-clause-found : goal.returns-clause-found
returns-clause-found g c = λ keeps. IfErr-weaker c.inspect.result _ _ (λ e told u chain contents mounts. mounted_found _ u chain contents mounts e (told.reason keeps)) c.inspect.ensures.refused
