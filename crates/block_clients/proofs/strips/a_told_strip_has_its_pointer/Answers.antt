use Rattle.std.proofs.Common.{List, ℕ, ap}
use Rattle.base.specs.declared.pointer.Pointer.{Pointer}
use Rattle.tree_blocks.specs.Pointers.{strip_in}
use Rattle.block_clients.proofs.strips.a_told_strip_has_its_pointer.Goals as goal

pub returns : goal.returns
returns c = ap (λ (l : List (ℕ × (Pointer × List Pointer))). (strip_in l 4).0) c.with_strip.ensures
