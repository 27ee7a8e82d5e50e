use Rattle.std.proofs.Common.{inr}
use Rattle.std.proofs.lemmas.Result.{IfErr-weaker, IfOk-weaker}
use Rattle.copies.proofs.files.copy_in_file.Goals as goal

pub returns-clause-copied : goal.returns-clause-copied
returns-clause-copied g c = IfOk-weaker c.copy_on-copied.result.0 _ _ (λ whole copy. copy.all) c.copy_on-copied.ensures.copied

pub returns-clause-failed : goal.returns-clause-failed
returns-clause-failed g c = IfErr-weaker c.copy_on-copied.result.0 _ _ (λ why failed. inr failed) c.copy_on-copied.ensures.failed
