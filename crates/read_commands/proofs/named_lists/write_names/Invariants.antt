use Rattle.std.proofs.Common.{◌≡◌, ◌++◌, ℕ, List, drop}
use Rattle.std.specs.Io.KnownBytes.{Appends}
use Rattle.read_commands.specs.NamedLines.{lines_by}
use Rattle.read_commands.proofs.named_lists.write_names.Given as goal

-- the lines so far are written, and those of the objects that are left follow
abbrev pub invariant-loop-object : goal.invariant-loop-object
invariant-loop-object g l = (front : List ℕ) × Appends (g.W.Write.contents l.fn.out) (g.W.Write.contents l.out) front
    × (lines_by l.fn.list.table l.fn.list.objects.items ≡ front ++ lines_by l.fn.list.table (drop l.object-index l.fn.list.objects.items))
