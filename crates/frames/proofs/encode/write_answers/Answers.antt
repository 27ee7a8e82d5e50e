use Rattle.std.proofs.Common.{arith}
use Rattle.frames.proofs.Appended.{few_answers}
use Rattle.frames.proofs.encode.write_answers.Goals as goal

pub overflow_cast-answers : goal.overflow_cast-answers
overflow_cast-answers c = omega (arith, few_answers c.args.answers.now, c.requires.size, c.requires.small)
