use Rattle.std.proofs.Common.{◌≡◌, ◌++◌, ℕ, List, drop}
use Rattle.std.specs.Io.KnownBytes.{Appends}
use Rattle.std.specs.List.{flat_map}
use Rattle.read_commands.specs.Json.{json_more}
use Rattle.read_commands.proofs.json_checks.write_more.Given as goal

-- the damages so far are written, and those that are left follow
abbrev pub invariant-loop-finding : goal.invariant-loop-finding
invariant-loop-finding g l = (front : List ℕ) × Appends (g.W.Write.contents l.fn.out) (g.W.Write.contents l.out) front
    × (flat_map json_more l.fn.findings ≡ front ++ flat_map json_more (drop l.finding-index l.fn.findings))
