use Rattle.std.proofs.Common.{◌≡◌, ◌++◌, ℕ, List, true, drop}
use Rattle.std.specs.Io.KnownBytes.{Appends}
use Rattle.read_commands.specs.Json.{json_reasons}
use Rattle.read_commands.proofs.json_checks.write_reasons.Given as goal

-- the labels so far are written, and those that are left follow
abbrev pub invariant-loop-state : goal.invariant-loop-state
invariant-loop-state g l = (front : List ℕ) × Appends (g.W.Write.contents l.fn.out) (g.W.Write.contents l.out) front
    × (json_reasons true l.fn.labels ≡ front ++ json_reasons l.is_first (drop l.state-index l.fn.labels))
