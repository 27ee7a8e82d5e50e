use Rattle.std.specs.Prelude.{List}
use Rattle.serving.specs.Inputs.{AnswersFrames, Exchange, Exchanges, program}
use Rattle.serving.proofs.inputs.answer_all.Given as goal

-- so far frames were read, and answered
abbrev pub invariant-loop : goal.invariant-loop
invariant-loop g l = (xs : List Exchange) × AnswersFrames program xs l.initial.handle l.handle
    × Exchanges xs (record { input = g.R.Read.remaining l.initial.input; output = g.S.AnswerSink.contents l.initial.output }) (record { input = g.R.Read.remaining l.input; output = g.S.AnswerSink.contents l.output })
