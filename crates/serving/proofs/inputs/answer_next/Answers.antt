use Rattle.std.proofs.Common.{[], arith, refl}
use Rattle.serving.specs.Inputs.{Streams, program}
use Rattle.serving.proofs.Served.{answer_written, answered, begins_none, ends_none, exchanged, front_written, may_be_sent, no_front}
use Rattle.serving.proofs.inputs.answer_next.Goals as goal

pub returns-in-Err : goal.returns-in-Err
returns-in-Err g c = (
  [],
  refl,
  begins_none (g.R.Read.remaining c.args.input.now),
  ends_none c.in-Err.ending c.read_frame.new.frame.items (g.R.Read.remaining c.args.input.now) (g.R.Read.remaining c.read_frame.new.input) (g.S.AnswerSink.contents c.args.output.now) c.in-Err.ensures.reads,
)

pub returns-in-Err-answer_frame : goal.returns-in-Err-answer_frame
returns-in-Err-answer_frame g c =
    let first : Streams = record { input = g.R.Read.remaining c.args.input.now; output = g.S.AnswerSink.contents c.args.output.now } in
    let last : Streams = record { input = g.R.Read.remaining c.read_frame.new.input; output = g.S.AnswerSink.contents c.args.output.now } in
    let a = c.in-Err-answer_frame.ensures.answered in
    answered program c.read_frame.new.frame.items c.as_slice.result.now first last c.args.handle.now c.answer_frame.new.handle c.as_slice.ensures.value c.in-Ok.ensures.whole c.in-Ok.ensures.reads a.0 a.1 (no_front first.output a.0)

pub put-requires : goal.put-requires
put-requires g c =
    let first : Streams = record { input = g.R.Read.remaining c.args.input.now; output = g.S.AnswerSink.contents c.args.output.now } in
    let last : Streams = record { input = g.R.Read.remaining c.read_frame.new.input; output = g.S.AnswerSink.contents c.args.output.now } in
    record {
      seen = may_be_sent program c.read_frame.new.frame.items c.as_slice.result.now first last c.args.handle.now c.answer_frame.new.handle c.as_slice.ensures.value c.in-Ok.ensures.whole c.in-Ok.ensures.reads
          c.clear.new.self.items c.answer_frame.new.out.items c.as_slice-2.result.now c.in-Ok-answer_frame.ensures.answered c.clear.ensures.items c.as_slice-2.ensures.value;
    }

pub returns-in-Err-put : goal.returns-in-Err-put
returns-in-Err-put g c =
    let first : Streams = record { input = g.R.Read.remaining c.args.input.now; output = g.S.AnswerSink.contents c.args.output.now } in
    let last : Streams = record { input = g.R.Read.remaining c.read_frame.new.input; output = g.S.AnswerSink.contents c.put.new.self } in
    front_written program c.read_frame.new.frame.items c.as_slice.result.now first last c.args.handle.now c.answer_frame.new.handle c.as_slice.ensures.value c.in-Ok.ensures.whole c.in-Ok.ensures.reads
    c.clear.new.self.items c.answer_frame.new.out.items c.as_slice-2.result.now c.in-Ok-answer_frame.ensures.answered c.clear.ensures.items c.as_slice-2.ensures.value c.in-Err-put.ensures.written

pub returns-then-len-eq-LENGTH_SIZE : goal.returns-then-len-eq-LENGTH_SIZE
returns-then-len-eq-LENGTH_SIZE g c =
    let first : Streams = record { input = g.R.Read.remaining c.args.input.now; output = g.S.AnswerSink.contents c.args.output.now } in
    let last : Streams = record { input = g.R.Read.remaining c.read_frame.new.input; output = g.S.AnswerSink.contents c.put.new.self } in
    answer_written program c.read_frame.new.frame.items c.as_slice.result.now first last c.args.handle.now c.answer_frame.new.handle c.as_slice.ensures.value c.in-Ok.ensures.whole c.in-Ok.ensures.reads
    c.clear.new.self.items c.answer_frame.new.out.items c.as_slice-2.result.now c.in-Ok-answer_frame.ensures.answered c.clear.ensures.items c.as_slice-2.ensures.value
    (omega (arith, c.len.ensures, c.read_frame.new.frame.ok.0, c.if-len-eq-LENGTH_SIZE.true)) c.in-Ok-put.ensures.written

pub returns : goal.returns
returns g c =
    let first : Streams = record { input = g.R.Read.remaining c.args.input.now; output = g.S.AnswerSink.contents c.args.output.now } in
    let last : Streams = record { input = g.R.Read.remaining c.read_frame.new.input; output = g.S.AnswerSink.contents c.put.new.self } in
    exchanged program c.read_frame.new.frame.items c.as_slice.result.now first last c.args.handle.now c.answer_frame.new.handle c.as_slice.ensures.value c.in-Ok.ensures.whole c.in-Ok.ensures.reads
    c.clear.new.self.items c.answer_frame.new.out.items c.as_slice-2.result.now c.in-Ok-answer_frame.ensures.answered c.clear.ensures.items c.as_slice-2.ensures.value
    (λ four. c.if-len-eq-LENGTH_SIZE.false (omega (arith, c.len.ensures, c.read_frame.new.frame.ok.0, four))) c.in-Ok-put.ensures.written
