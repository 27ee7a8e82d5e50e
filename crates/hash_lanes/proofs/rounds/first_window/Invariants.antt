use Rattle.std.proofs.Common.{◌≡◌, ℕ, ◌<◌, ◌*◌, length, slice_index}
use Rattle.sha2.specs.Sha256.{word_at}
use Rattle.hash_lanes.specs.Lanes.{lane, one_of}
use Rattle.hash_lanes.proofs.rounds.first_window.Given as goal

-- the words so far are the blocks'
abbrev pub invariant-load : goal.invariant-load
invariant-load l = record {
  len : length l.w ≡ 16;
  words : (i k : ℕ) → i < 4 → k < l.k → slice_index (lane i l.w) k ≡ word_at (one_of i l.a l.b l.c l.d) (4 * k);
}
