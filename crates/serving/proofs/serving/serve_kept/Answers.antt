use Rattle.std.proofs.Common.{inl, inr, refl}
use Rattle.serving.specs.Inputs.{Streams}
use Rattle.serving.proofs.ServedPools.{not_done}
use Rattle.serving.proofs.serving.serve_kept.Goals as goal

pub returns-in-Err : goal.returns-in-Err
returns-in-Err g c = record {
  served = inl (
    record { failed = not_done c.in-Err.ending c.in-Err.ensures.failed; unread = refl; front = c.in-Err.ensures.front },
    (c.handle-handle.result, c.handle-handle.ensures, c.leave.ensures),
  );
}

pub returns : goal.returns
returns g c =
    let s = c.serve-served.ensures.served in
    record {
      served = inr (
        record {
          ending = s.0;
          exchanges = s.1;
          synced = s.2;
          first = c.handle-handle.result;
          is_new = c.handle-handle.ensures;
          last = c.serve-served.new.handle;
          serves = s.3;
          begins = s.4;
          middle = g.O.Write.contents c.write_opening.new.output;
          opening = c.in-Ok.ensures.written;
          ends = s.5;
          well = s.6;
        },
        c.leave-2.ensures,
      );
    }
