-- A pool with no root has no objects, and one with no log an empty chain, whatever the image.
use Rattle.std.proofs.Common.{◌≡◌, ℕ, List, [], refl, arith, inl}
use Rattle.std.specs.Ordering.{nat_cmp}
use Rattle.std.specs.FinMap as map
use Rattle.base.specs.formats.Fields.{no_pointer}
use Rattle.base.specs.formats.Geometry.{block_address}
use Rattle.base.specs.formats.Blocks.{Frame}
use Rattle.base.specs.tree.Tree.{IsTree}
use Rattle.base.specs.formats.Chain.{IsChain}
use Rattle.base.proofs.formats.Pieces.{piece_block}

pub empty_tree : (image : List ℕ) (frame : Frame) → IsTree image frame no_pointer map.empty
empty_tree image frame = record {
  no_others = λ n _. map.get-empty {X = List ℕ} nat_cmp n;
  directories = inl (refl, λ n. map.get-empty {X = List ℕ} nat_cmp n);
}

pub empty_chain : (image : List ℕ) (frame : Frame) (chain number : ℕ) → IsChain image frame chain (record { address = 0; number = number }) []
empty_chain image frame chain number piece is =
    let b = piece_block image frame chain (record { address = 0; number = number }) piece is in
    let at : 0 ≡ block_address b.1.in_area.0 = b.1.in_area.2 in absurd (omega arith)
