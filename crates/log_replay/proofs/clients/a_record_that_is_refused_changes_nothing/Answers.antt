use Rattle.std.proofs.Common.{refl}
use Rattle.std.specs.Prelude.{Err, IfOk, IsErr, Ok, Result}
use Rattle.std.proofs.lemmas.Result.{IfErr-weaker, IfOk-weaker}
use Rattle.base.specs.declared.error.PoolError.{PoolError}
use Rattle.contents.specs.ContentsShown.{contents_of}
use Rattle.tree_blocks.proofs.TreeObjects.{tree_numbered}
use Rattle.log_replay.proofs.Callers.{creation_reported, not_created}
use Rattle.log_replay.proofs.clients.a_record_that_is_refused_changes_nothing.Goals as goal

is_err : {A : Type 0} (r : Result A PoolError) → IfOk r (λ _. ⊥) → IsErr r
is_err (Ok a) none = absurd none
is_err (Err e) none = refl

pub changes_of-requires-clause-numbered : goal.changes_of-requires-clause-numbered
changes_of-requires-clause-numbered c = λ n past. tree_numbered c.args.synced.now.tree n past

pub returns-clause-refused : goal.returns-clause-refused
returns-clause-refused c =
    is_err c.changes_of.result (IfOk-weaker c.changes_of.result _ _ (λ r is. not_created (contents_of c.args.synced.now) c.requires.there r (rw c.requires.chain at is)) (c.changes_of.ensures.changes c.args.synced.now.name))

pub returns-clause-address : goal.returns-clause-address
returns-clause-address c =
    IfErr-weaker c.changes_of.result _ _ (λ e is. creation_reported (contents_of c.args.synced.now) c.requires.there e (rw c.requires.chain at is)) (c.changes_of.ensures.refused c.args.synced.now.name)
