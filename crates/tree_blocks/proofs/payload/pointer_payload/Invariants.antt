use Rattle.std.proofs.Common.{◌≡◌, ℕ, ◌<◌, length}
use Rattle.std.specs.Prelude.{slice_index_or}
use Rattle.base.specs.formats.Fields.{no_pointer, pointer_in}
use Rattle.tree_blocks.proofs.payload.pointer_payload.Given as goal

abbrev pub invariant-loop-index : goal.invariant-loop-index
invariant-loop-index l = record {
  size : length l.payload ≡ 4032;
  pointers : (r : ℕ) → r < l.index → pointer_in l.payload r ≡ slice_index_or l.pointers r no_pointer;
}
