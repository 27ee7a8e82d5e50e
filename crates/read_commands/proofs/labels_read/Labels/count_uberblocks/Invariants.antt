use Rattle.std.proofs.Common.{◌≤◌}
use Rattle.read_commands.specs.ReadLabels.{AreCounted, arrays_of, slots_read}
use Rattle.read_commands.proofs.labels_read.Labels.count_uberblocks.Given as goal

-- the uberblocks in the slots so far are counted
abbrev pub invariant-loop-position : goal.invariant-loop-position
invariant-loop-position l = record {
  within : l.position ≤ 128;
  few : l.counted.0 ≤ l.position;
  counted : AreCounted (slots_read (arrays_of l.self) l.label) l.position l.counted.0 l.counted.1.0;
}
