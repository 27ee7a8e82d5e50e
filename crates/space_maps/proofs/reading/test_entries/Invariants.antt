use Rattle.std.proofs.Common.{◌≡◌, ◌≤◌, ◌<◌, ◌+◌, ◌*◌, ◌^◌, ℕ}
use Rattle.space_maps.specs.Nodes.{map_entry_in}
use Rattle.space_maps.specs.Opening.{IsEntryOf, count_sum}
use Rattle.space_maps.proofs.reading.test_entries.Given as goal

abbrev pub invariant-loop-k : goal.invariant-loop-k
invariant-loop-k l = record {
  entries : (k : ℕ) → k < l.k → IsEntryOf l.shape l.level (72 * l.index + k) (map_entry_in l.payload k);
  sum : l.sum ≡ count_sum l.payload l.k;
  most : l.sum ≤ l.k * 2 ^ 64;
}
