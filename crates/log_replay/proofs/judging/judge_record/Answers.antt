use Rattle.log_replay.proofs.judging.judge_record.Goals as goal

pub returns-in-Err-clause-refused : goal.returns-in-Err-clause-refused
returns-in-Err-clause-refused g c = (c.in-Err.field-0, c.in-Err.ensures)
