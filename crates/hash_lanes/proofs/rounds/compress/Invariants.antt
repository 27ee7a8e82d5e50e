use Rattle.std.proofs.Common.{ℕ, ◌<◌, ◌*◌}
use Rattle.sha2.specs.Sha256.{IsRoundsAt}
use Rattle.hash_lanes.specs.Lanes.{lane, one_of}
use Rattle.hash_lanes.proofs.rounds.compress.Given as goal

abbrev pub invariant-schedule : goal.invariant-schedule
invariant-schedule l = (i : ℕ) → i < 4
    → IsRoundsAt (one_of i l.a l.b l.c l.d) (lane i l.state) (lane i l.w) (lane i l.v) (16 * l.turn)
