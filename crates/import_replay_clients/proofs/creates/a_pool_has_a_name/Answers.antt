use Rattle.std.proofs.Common.{◌≡◌, [], ℕ, true, false, inr, subst}
use Rattle.std.proofs.lemmas.Result.{IfErr-weaker}
use Rattle.import_replay.specs.CreateRefusals.{IsCreateRefusal}
use Rattle.import_replay_clients.proofs.Promises.{by_name, is_refused}
use Rattle.import_replay_clients.proofs.creates.a_pool_has_a_name.Goals as goal

pub returns-clause-refused : goal.returns-clause-refused
returns-clause-refused g c = is_refused c.create.result _ c.create.ensures.made (λ can. let no : false ≡ true = can.1 in cc)

pub returns-clause-reason : goal.returns-clause-reason
returns-clause-reason g c = IfErr-weaker c.create.result _ _ (λ e told. by_name e.0 (subst (λ (n : ℕ). IsCreateRefusal n [] e.0) c.requires told.kind)) c.create.ensures.refused

pub returns-clause-unchanged : goal.returns-clause-unchanged
returns-clause-unchanged g c = IfErr-weaker c.create.result _ _ (λ e told. told.untouched (inr (by_name e.0 (subst (λ (n : ℕ). IsCreateRefusal n [] e.0) c.requires told.kind)))) c.create.ensures.refused
