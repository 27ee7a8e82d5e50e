use Rattle.std.proofs.Common.{◌≡◌}
use Rattle.std.specs.Slice.Iter.{chunks_rest, chunks_size}
use Rattle.pool_threads.proofs.LongWrites.{HasWritten, StaysClean}
use Rattle.pool_threads.proofs.handle.Handle.write_long.Given as goal

-- the pieces so far are committed, and these bytes are left
abbrev pub invariant-loop-piece : goal.invariant-loop-piece
invariant-loop-piece g l = record {
  next : chunks_size l.piece-iterator ≡ 64512;
  written : HasWritten l.owner l.object l.offset l.fn.bytes l.fn.self l.receipt l.committed (chunks_rest l.piece-iterator) l.self;
  clean : StaysClean l.fn.self l.self;
}
