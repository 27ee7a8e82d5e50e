use Rattle.std.proofs.Common.{◌≡◌, ◌≤◌, ℕ, ◌<◌, length, get_or}
use Rattle.mapped_labels.specs.Entries.{no_entry}
use Rattle.space_maps.specs.Nodes.{map_entry_in}
use Rattle.space_maps.proofs.entry.entries_payload.Given as goal

abbrev pub invariant-loop-index : goal.invariant-loop-index
invariant-loop-index l = record {
  size : length l.payload ≡ 4032;
  before : (e : ℕ) → e < l.index → map_entry_in l.payload e ≡ get_or l.entries e no_entry;
  behind : (e : ℕ) → l.index ≤ e → e < 72 → map_entry_in l.payload e ≡ no_entry;
}
