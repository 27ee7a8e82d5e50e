use Rattle.std.proofs.Common.{◌≡◌, ◌++◌, ℕ, List, drop}
use Rattle.std.specs.Io.KnownBytes.{Appends}
use Rattle.std.specs.List.{flat_map}
use Rattle.read_commands.specs.Json.{json_next}
use Rattle.read_commands.proofs.json_reports.write_rest.Given as goal

-- the objects so far are written, and those that are left follow
abbrev pub invariant-loop-object : goal.invariant-loop-object
invariant-loop-object g l = (front : List ℕ) × Appends (g.W.Write.contents l.fn.out) (g.W.Write.contents l.out) front
    × (flat_map json_next l.fn.objects ≡ front ++ flat_map json_next (drop l.object-index l.fn.objects))
