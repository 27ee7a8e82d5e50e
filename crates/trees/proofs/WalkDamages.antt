-- When a block is sound, and when it is a damage.
use Rattle.std.proofs.Common.{◌≡◌, ℕ, List, ap, sym, subst, arith, inr}
use Rattle.std.proofs.lemmas.Bool.{ne_eqb}
use Rattle.base.specs.declared.pointer.Pointer.{Pointer}
use Rattle.base.specs.formats.Blocks.{Frame, Opens}
use Rattle.base.specs.tree.Places.{Place, kind_of, number_of_place, pointer_of, pointer_below}
use Rattle.base.specs.tree.Damages.{IsSoundAt, IsWellFormed}

-- a block has an address
pub there : (image : List ℕ) (frame : Frame) (kind number : ℕ) (pointer : Pointer) (payload : List ℕ) → Opens image frame kind number pointer payload → (pointer.address ≡ 0) → ⊥
there image frame kind number pointer payload opens zero = let a = opens.in_area in omega (arith, a.2, zero)

-- what a block's pointer gives of the places below it
pub below_block : (image : List ℕ) (frame : Frame) (kind number : ℕ) (above : Pointer) (payload : List ℕ) (f : List ℕ → Pointer) → Opens image frame kind number above payload
    → pointer_below image above f ≡ f payload
below_block image frame kind number above payload f opens =
    let not : (above.address ≡ 0) → ⊥ = there image frame kind number above payload opens in
    rw (ne_eqb above.address 0 not) (ap f opens.block.payload_is)

-- a place with its block, and what the block holds well formed
pub sound_at : (image : List ℕ) (frame : Frame) (root : Pointer) (place : Place) (pointer : Pointer) (payload : List ℕ) → pointer_of image root place ≡ pointer
    → Opens image frame (kind_of place) (number_of_place place) pointer payload → IsWellFormed image frame root place payload → IsSoundAt image frame root place
sound_at image frame root place pointer payload at opens formed =
    inr (payload, subst (λ (p : Pointer). Opens image frame (kind_of place) (number_of_place place) p payload) (sym at) opens, formed)
