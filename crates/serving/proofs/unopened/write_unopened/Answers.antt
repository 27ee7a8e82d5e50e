use Rattle.std.proofs.Common.{[], subst}
use Rattle.std.specs.Io.KnownBytes.{Appends}
use Rattle.serving.specs.Written.{AppendsFront}
use Rattle.serving.proofs.Served.{no_front}
use Rattle.frames.specs.Openings.{bytes_of_unopened}
use Rattle.serving.proofs.ServedPools.{frame_front}
use Rattle.serving.proofs.unopened.write_unopened.Goals as goal

pub returns-in_default : goal.returns-in_default
returns-in_default g c = (0, [], no_front (g.O.Write.contents c.args.output.now) _)

pub returns-in-Ok-encode_unopened : goal.returns-in-Ok-encode_unopened
returns-in-Ok-encode_unopened g c =
    let old = g.O.Write.contents c.args.output.now in
    let new = g.O.Write.contents c.write_frame.new.output in
    let code = c.system_error_of-system_error.result in
    let words = c.as_str.result.now in (
      code,
      words,
      subst (λ r. AppendsFront old new (bytes_of_unopened r code words)) c.refusal_of-refusal.ensures
          (frame_front c.write_frame.result old new c.new-frame.result.items c.encode_unopened.new.out.items c.as_slice.result.now (bytes_of_unopened c.refusal_of-refusal.result code words) c.new-frame.ensures.items c.in-Ok-encode_unopened.ensures.bytes c.as_slice.ensures.value c.write_frame.ensures.written),
    )
