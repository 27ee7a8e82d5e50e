use Rattle.std.proofs.Common.{ℕ, ◌<◌, ◌*◌}
use Rattle.sha2.specs.Sha256.{IsRoundsAt}
use Rattle.hash_lanes.specs.Lanes.{lane, one_of_eight}
use Rattle.hash_lanes.proofs.eights.compress.Given as goal

abbrev pub invariant-schedule : goal.invariant-schedule
invariant-schedule l = (i : ℕ) → i < 8
    → IsRoundsAt (one_of_eight i l.a l.b l.c l.d l.e l.f l.g l.h) (lane i l.state) (lane i l.w) (lane i l.v) (16 * l.turn)
