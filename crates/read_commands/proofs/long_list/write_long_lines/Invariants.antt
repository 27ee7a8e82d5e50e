use Rattle.std.proofs.Common.{◌≡◌, ◌++◌, ℕ, List, drop}
use Rattle.std.specs.Io.KnownBytes.{Appends}
use Rattle.std.specs.List.{flat_map}
use Rattle.read_commands.specs.ObjectBlocks.{long_line}
use Rattle.read_commands.proofs.long_list.write_long_lines.Given as goal

-- the lines so far are written, and those of the objects that are left follow
abbrev pub invariant-loop-object : goal.invariant-loop-object
invariant-loop-object g l = (front : List ℕ) × Appends (g.W.Write.contents l.fn.out) (g.W.Write.contents l.out) front
    × (flat_map long_line l.fn.objects ≡ front ++ flat_map long_line (drop l.object-index l.fn.objects))
