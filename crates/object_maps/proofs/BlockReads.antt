-- A block that was read is the one that its pointer names, or its refusal tells that it isn't there.
use Rattle.std.proofs.Common.{◌≡◌, ℕ, ◌≤◌, List, length, drop, refl, sym, ◌∙◌}
use Rattle.base.specs.declared.error.PoolError.{PoolError}
use Rattle.base.specs.declared.error.PoolError.TheVariants.{Damaged}
use Rattle.base.specs.declared.pointer.Pointer.{Pointer}
use Rattle.base.specs.formats.Fields.{part}
use Rattle.base.specs.formats.Geometry.{IsBlockAddress}
use Rattle.base.specs.formats.Blocks.{Frame, Opens}
use Rattle.checked_blocks.specs.declared.expected.Expected.{Expected}
use Rattle.checked_blocks.specs.Opening.{IsExpected}
use Rattle.checked_blocks.proofs.NamedBlocks.{IsNamed, IsExpected-Opens, Opens-IsExpected}
use Rattle.object_maps.specs.BlockReads.{TellsBlock}

-- a block that opens as its pointer names it is the block of that place
pub block_opens : (image : List ℕ) (frame : Frame) (kind number : ℕ) (pointer : Pointer) (e : Expected) (bytes : List ℕ) → IsNamed e frame kind number pointer
    → IsBlockAddress frame.blocks pointer.address → pointer.birth ≤ frame.group → bytes ≡ part image pointer.address 4096 → length bytes ≡ 4096 → IsExpected bytes e
    → Opens image frame kind number pointer (drop 64 bytes)
block_opens image frame kind number pointer e bytes named place born at long is =
    IsExpected-Opens image frame kind number pointer e bytes (drop 64 bytes)
    (record { kind_is = named.kind_is; guid_is = named.guid_is; number_is = named.number_is; group_is = named.group_is; check_is = named.check_is })
    place born at long refl is

-- a block that does not open as its pointer names it is not there
pub block_missing : (image : List ℕ) (frame : Frame) (kind number : ℕ) (pointer : Pointer) (e : Expected) (bytes : List ℕ) → IsNamed e frame kind number pointer
    → bytes ≡ part image pointer.address 4096 → (IsExpected bytes e → ⊥) → (payload : List ℕ) → Opens image frame kind number pointer payload → ⊥
block_missing image frame kind number pointer e bytes named at not payload opens =
    not (Opens-IsExpected image frame kind number pointer e bytes payload named at opens)

-- a Damaged has one kind and one address
pub same-kind : (k a m b : ℕ) → Damaged k a ≡ Damaged m b → k ≡ m
same-kind k a m b e = cc

pub same-address : (k a m b : ℕ) → Damaged k a ≡ Damaged m b → a ≡ b
same-address k a m b e = cc

-- a block that does not open is what its refusal tells
pub tells_missing : (image : List ℕ) (frame : Frame) (kind number : ℕ) (pointer : Pointer) (x : Expected) (bytes : List ℕ) (e : PoolError) → IsNamed x frame kind number pointer
    → x.address ≡ pointer.address → bytes ≡ part image pointer.address 4096 → (IsExpected bytes x → ⊥) → e ≡ Damaged x.kind x.address
    → TellsBlock image frame kind number pointer e
tells_missing image frame kind number pointer x bytes e named address_is at not is = λ k address d.
    let told : Damaged x.kind x.address ≡ Damaged k address = sym is ∙ d in
    (sym named.kind_is ∙ same-kind x.kind x.address k address told, (sym address_is ∙ same-address x.kind x.address k address told, block_missing image frame kind number pointer x bytes named at not))
