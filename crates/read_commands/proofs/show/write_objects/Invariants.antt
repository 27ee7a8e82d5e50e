use Rattle.std.proofs.Common.{◌≡◌, ◌++◌, ℕ, List, drop}
use Rattle.std.specs.Io.KnownBytes.{Appends}
use Rattle.read_commands.specs.PoolLines.{object_lines}
use Rattle.read_commands.proofs.show.write_objects.Given as goal

-- the lines so far are written, and those of the objects that are left follow
abbrev pub invariant-loop-object : goal.invariant-loop-object
invariant-loop-object g l = (front : List ℕ) × Appends (g.W.Write.contents l.fn.out) (g.W.Write.contents l.out) front
    × (object_lines l.fn.objects ≡ front ++ object_lines (drop l.object-index l.fn.objects))
