use Rattle.std.proofs.Common.{◌<◌, ℕ}
use Rattle.read_commands.specs.ReadLabels.{HasGroupAt, arrays_of}
use Rattle.read_commands.proofs.labels_read.Labels.label_of.Given as goal

-- no label so far has the group
abbrev pub invariant-loop-label : goal.invariant-loop-label
invariant-loop-label l = (k : ℕ) → k < l.label → HasGroupAt (arrays_of l.self) k l.group → ⊥
