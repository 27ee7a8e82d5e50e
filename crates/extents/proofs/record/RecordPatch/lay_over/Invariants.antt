use Rattle.std.proofs.Common.{ℕ, ◌≡◌, ◌+◌, ◌<◌, ◌≤◌, get_or, length}
use Rattle.std.specs.Prelude.{unwrap_or}
use Rattle.extents.specs.Records.{bytes_written}
use Rattle.extents.proofs.record.RecordPatch.lay_over.Given as goal

abbrev pub invariant-loop-i : goal.invariant-loop-i
invariant-loop-i l = record {
  size : length l.into ≡ length l.initial.into;
  done : (k : ℕ) → k < l.i → get_or l.into k 0 ≡ unwrap_or (bytes_written l.self (l.start + k)) (get_or l.initial.into k 0);
  rest : (k : ℕ) → l.i ≤ k → get_or l.into k 0 ≡ get_or l.initial.into k 0;
}
