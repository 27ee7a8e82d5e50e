use Rattle.std.proofs.Common.{◌≡◌, ℕ, ◌<◌, ◌*◌, length, slice_index}
use Rattle.sha2.specs.Sha256.{word_at}
use Rattle.hash_lanes.specs.Lanes.{lane, one_of_eight}
use Rattle.hash_lanes.proofs.eights.first_window.Given as goal

-- the words so far are the blocks'
abbrev pub invariant-load : goal.invariant-load
invariant-load l = record {
  len : length l.w ≡ 16;
  words : (i k : ℕ) → i < 8 → k < l.k → slice_index (lane i l.w) k ≡ word_at (one_of_eight i l.a l.b l.c l.d l.e l.f l.g l.h) (4 * k);
}
