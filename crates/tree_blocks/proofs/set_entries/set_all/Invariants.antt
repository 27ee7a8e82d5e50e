use Rattle.std.proofs.Common.{◌≡◌, vec_len}
use Rattle.base.specs.formats.Limits.{object_count}
use Rattle.tree_blocks.specs.SetEntries.{set_entries}
use Rattle.tree_blocks.proofs.set_entries.set_all.Given as goal

-- the objects that are left, set over those so far, give what all give over the old ones
abbrev pub invariant-loop-id : goal.invariant-loop-id
invariant-loop-id l = record {
  entries : set_entries l.id-iterator l.entries.items ≡ set_entries l.fn.new.entries l.fn.entries.items;
  count : vec_len l.entries ≡ object_count;
}
