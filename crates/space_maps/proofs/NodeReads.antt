-- A node that was read is the one that its pointer names, or it doesn't stand there.
use Rattle.std.proofs.Common.{◌≡◌, ℕ, List, sym, subst}
use Rattle.base.specs.declared.pointer.Pointer.{Pointer}
use Rattle.base.specs.formats.Blocks.{Frame}
use Rattle.base.specs.formats.Fields.{part}
use Rattle.space_maps.specs.Opening.{IsNodeAt, IsNodeBlock, IsNodePlace}

pub node_stands : (image bytes : List ℕ) (frame : Frame) (size kind guid number : ℕ) (pointer : Pointer) → IsNodePlace frame size number pointer
    → bytes ≡ part image pointer.address 4096 → guid ≡ frame.guid → IsNodeBlock bytes kind guid number pointer → IsNodeAt image frame size kind number pointer
node_stands image bytes frame size kind guid number pointer place at same block = record {
  place = place;
  block = subst (λ (l : List ℕ). IsNodeBlock l kind frame.guid number pointer) at (subst (λ (u : ℕ). IsNodeBlock bytes kind u number pointer) same block);
}

pub node_missing : (image bytes : List ℕ) (frame : Frame) (size kind guid number : ℕ) (pointer : Pointer) → bytes ≡ part image pointer.address 4096 → guid ≡ frame.guid
    → (IsNodeBlock bytes kind guid number pointer → ⊥) → IsNodeAt image frame size kind number pointer → ⊥
node_missing image bytes frame size kind guid number pointer at same not is =
    not (subst (λ (u : ℕ). IsNodeBlock bytes kind u number pointer) (sym same) (subst (λ (l : List ℕ). IsNodeBlock l kind frame.guid number pointer) (sym at) is.block))
