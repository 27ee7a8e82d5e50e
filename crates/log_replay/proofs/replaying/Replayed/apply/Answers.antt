use Rattle.std.proofs.Common.{inr}
use Rattle.std.proofs.lemmas.Result.{err_from_is_err_and}
use Rattle.log_replay.proofs.replaying.Replayed.apply.Goals as goal

pub returns-in_err-judge_record-clause-refused : goal.returns-in_err-judge_record-clause-refused
returns-in_err-judge_record-clause-refused c =
    let p = err_from_is_err_and c.from_residual.result c.from_residual.ensures.1 in
    rw (p.1, p.2) (inr (c.in_err-judge_record.ensures.damaged, rw (c.new.ensures, c.as_slice.ensures) at c.in_err-judge_record.ensures.refused))

pub returns-clause-applies : goal.returns-clause-applies
returns-clause-applies c = rw (c.new.ensures, c.as_slice.ensures) at c.in_ok-judge_record.ensures.applies
