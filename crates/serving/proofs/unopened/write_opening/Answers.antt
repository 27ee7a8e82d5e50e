use Rattle.std.proofs.Common.{subst}
use Rattle.std.specs.Io.KnownBytes.{Appends}
use Rattle.frames.specs.Openings.{bytes_of_opening}
use Rattle.serving.specs.Serving.{opening_of}
use Rattle.serving.proofs.ServedPools.{frame_whole}
use Rattle.serving.proofs.unopened.write_opening.Goals as goal

pub returns-in-Ok-write_frame-clause-written : goal.returns-in-Ok-write_frame-clause-written
returns-in-Ok-write_frame-clause-written g c =
    let old = g.O.Write.contents c.args.output.now in
    let new = g.O.Write.contents c.write_frame.new.output in
    subst (λ o. Appends old new (bytes_of_opening (opening_of o))) c.opened-opened.ensures
    (frame_whole old new c.new-frame.result.items c.encode_opening.new.out.items c.as_slice.result.now (bytes_of_opening (opening_of c.opened-opened.result)) c.new-frame.ensures.items c.in-Ok.ensures.bytes c.as_slice.ensures.value c.in-Ok-write_frame.ensures.written)
