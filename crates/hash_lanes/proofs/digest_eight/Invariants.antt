use Rattle.std.proofs.Common.{◌≡◌, ℕ, ◌<◌}
use Rattle.sha2.specs.Sha256.{hash_after, initial_hash_256}
use Rattle.hash_lanes.specs.Lanes.{lane, one_of_eight}
use Rattle.hash_lanes.proofs.digest_eight.Given as goal

-- each message's hash value has taken in its first k parts
abbrev pub invariant-parts : goal.invariant-parts
invariant-parts l = (i : ℕ) → i < 8 → lane i l.hashes ≡ hash_after initial_hash_256 (one_of_eight i l.a l.b l.c l.d l.e l.f l.g l.h) l.k
