use Rattle.std.proofs.lemmas.Result.{IfErr-weaker}
use Rattle.import_replay_clients.proofs.Promises.{by_bounds, is_refused, not_allowed, ok_made}
use Rattle.import_replay_clients.proofs.imports.a_limit_below_a_block_leaves_the_device.Goals as goal

pub returns-clause-refused : goal.returns-clause-refused
returns-clause-refused g c = is_refused c.import.result _ (ok_made c.import.result _ _ (λ i mounted. mounted.made) c.import.ensures.mounted) (not_allowed (g.D.SectorDevice.size c.args.device))

pub returns-clause-unchanged : goal.returns-clause-unchanged
returns-clause-unchanged g c = IfErr-weaker c.import.result _ _ (λ e refused. refused.untouched (by_bounds (g.D.SectorDevice.size c.args.device) e.0 refused.kind)) c.import.ensures.refused
