use Rattle.std.proofs.Common.{◌≡◌, ◌++◌, ℕ, List, drop}
use Rattle.std.specs.Io.KnownBytes.{Appends}
use Rattle.read_commands.specs.FoundDamages.{finding_lines}
use Rattle.read_commands.proofs.check_all.write_findings.Given as goal

-- the lines so far are written, and those of the findings that are left follow
abbrev pub invariant-loop-finding : goal.invariant-loop-finding
invariant-loop-finding g l = (front : List ℕ) × Appends (g.W.Write.contents l.fn.out) (g.W.Write.contents l.out) front
    × (finding_lines l.fn.findings ≡ front ++ finding_lines (drop l.finding-index l.fn.findings))
