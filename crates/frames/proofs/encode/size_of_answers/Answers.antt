use Rattle.frames.specs.Answers.{bytes_of_answer}
use Rattle.frames.proofs.Appended.{are_large, if_none}
use Rattle.frames.proofs.encode.size_of_answers.Goals as goal

pub returns-in_err-size-clause-large : goal.returns-in_err-size-clause-large
returns-in_err-size-clause-large c = if_none c.from_residual.result (are_large bytes_of_answer c.args.answers.now c.loop-answer.answer-index c.loop-answer.size c.answer-item.result c.loop-answer-test.true c.answer-item.is c.loop-answer.invariant.1 c.in_err-size.ensures.large)
