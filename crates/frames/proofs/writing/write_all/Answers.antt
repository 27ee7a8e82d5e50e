use Rattle.frames.specs.Answers.{bytes_of_answer}
use Rattle.frames.proofs.Appended.{has_room, is_small}
use Rattle.frames.proofs.writing.write_all.Goals as goal

pub write_answer-requires-clause-small : goal.write_answer-requires-clause-small
write_answer-requires-clause-small c = is_small bytes_of_answer c.args.answers.now c.loop-answer.answer-index c.answer-item.result c.loop-answer-test.true c.answer-item.is c.requires.small

pub write_answer-requires-clause-room : goal.write_answer-requires-clause-room
write_answer-requires-clause-room c = has_room bytes_of_answer c.args.answers.now c.loop-answer.answer-index c.answer-item.result c.loop-answer-test.true c.answer-item.is c.args.out.now c.loop-answer.out c.requires.room c.loop-answer.invariant
