use Rattle.std.proofs.Common.{[], ◌++◌, refl}
use Rattle.serving.specs.Inputs.{Streams, program}
use Rattle.serving.proofs.Served.{answers_then, begins_then, ends_then, exchanges_none, exchanges_then}
use Rattle.serving.proofs.inputs.answer_all.Goals as goal

pub loop-init : goal.loop-init
loop-init g c = ([], refl, exchanges_none (record { input = g.R.Read.remaining c.args.input.now; output = g.S.AnswerSink.contents c.args.output.now }))

pub returns-in-Err : goal.returns-in-Err
returns-in-Err g c =
    let so_far = c.loop.invariant in
    let next = c.in-Err.ensures in
    let first : Streams = record { input = g.R.Read.remaining c.args.input.now; output = g.S.AnswerSink.contents c.args.output.now } in
    let now : Streams = record { input = g.R.Read.remaining c.loop.input; output = g.S.AnswerSink.contents c.loop.output } in
    let last : Streams = record { input = g.R.Read.remaining c.answer_next.new.input; output = g.S.AnswerSink.contents c.answer_next.new.output } in
    (so_far.0 ++ next.0, answers_then program so_far.0 next.0 c.args.handle.now c.loop.handle c.answer_next.new.handle so_far.1 next.1, begins_then so_far.0 next.0 first now so_far.2 next.2, ends_then c.in-Err.ending so_far.0 next.0 first now last so_far.2 next.3)

pub loop-preserved : goal.loop-preserved
loop-preserved g c =
    let so_far = c.loop.invariant in
    let next = c.in-Ok.ensures in
    let first : Streams = record { input = g.R.Read.remaining c.args.input.now; output = g.S.AnswerSink.contents c.args.output.now } in
    let now : Streams = record { input = g.R.Read.remaining c.loop.input; output = g.S.AnswerSink.contents c.loop.output } in
    let last : Streams = record { input = g.R.Read.remaining c.answer_next.new.input; output = g.S.AnswerSink.contents c.answer_next.new.output } in
    (so_far.0 ++ next.0, answers_then program so_far.0 next.0 c.args.handle.now c.loop.handle c.answer_next.new.handle so_far.1 next.1, exchanges_then so_far.0 next.0 first now last so_far.2 next.3)
