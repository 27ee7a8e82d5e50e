use Rattle.std.proofs.Common.{◌≡◌, ◌++◌, ℕ, List, drop}
use Rattle.std.specs.Io.KnownBytes.{Appends}
use Rattle.read_commands.specs.FoundLabels.{state_lines}
use Rattle.read_commands.proofs.label_states.write_all.Given as goal

-- the lines so far are written, and those of the labels that are left follow
abbrev pub invariant-loop-state : goal.invariant-loop-state
invariant-loop-state g l = (front : List ℕ) × Appends (g.W.Write.contents l.fn.out) (g.W.Write.contents l.out) front
    × (state_lines l.fn.states ≡ front ++ state_lines (drop l.state-index l.fn.states))
