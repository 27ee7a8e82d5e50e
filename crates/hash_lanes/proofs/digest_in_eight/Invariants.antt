use Rattle.std.proofs.Common.{◌≡◌, ◌*◌, length, take}
use Rattle.sha2.specs.Sha256.{digest_bytes}
use Rattle.hash_lanes.specs.Lanes.{lane}
use Rattle.hash_lanes.proofs.digest_in_eight.Given as goal

-- the words so far are written
abbrev pub invariant-words : goal.invariant-words
invariant-words l = record {
  len : length l.out ≡ 32;
  written : take (4 * l.k) l.out ≡ digest_bytes (lane l.message l.hashes) l.k;
}
