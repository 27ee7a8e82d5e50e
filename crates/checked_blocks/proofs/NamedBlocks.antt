-- Blocks that a pointer names, as they are opened.
use Rattle.std.proofs.Common.{◌≡◌, ℕ, ◌+◌, ◌≤◌, List, length, take, drop, Some, sym, ◌∙◌, ap, subst, arith}
use Rattle.std.proofs.lemmas.List.{drop-drop, drop-take, take-take}
use Rattle.base.specs.declared.pointer.Pointer.{Pointer}
use Rattle.base.specs.formats.Fields.{part}
use Rattle.base.specs.formats.Geometry.{IsBlockAddress}
use Rattle.base.specs.formats.Blocks.{Frame, IsBlock, Opens}
use Rattle.checked_blocks.specs.declared.expected.Expected.{Expected}
use Rattle.checked_blocks.specs.Opening.{IsExpected}

-- the check field of the block at an address
pub check-part_at : (image : List ℕ) (address : ℕ) → part (part image address 4096) 32 32 ≡ part image (address + 32) 32
check-part_at image address =
    ap (λ (l : List ℕ). take 32 l) (drop-take 32 4064 (drop address image))
    ∙ take-take 32 4064 (drop 32 (drop address image)) (omega arith)
    ∙ ap (λ (l : List ℕ). take 32 l) (drop-drop 32 address image)

-- what is expected of the block that a pointer names
pub record IsNamed (e : Expected) (frame : Frame) (kind number : ℕ) (pointer : Pointer) : Type 0 where
  pub kind_is : e.kind ≡ kind
  pub guid_is : e.guid ≡ frame.guid
  pub number_is : e.number ≡ number
  pub group_is : e.group ≡ Some (record { 0 = pointer.birth })
  pub check_is : e.check ≡ Some pointer.check

-- the block that a pointer names is there where it opens as expected
pub IsExpected-Opens : (image : List ℕ) (frame : Frame) (kind number : ℕ) (pointer : Pointer) (e : Expected) (bytes payload : List ℕ)
    → IsNamed e frame kind number pointer → IsBlockAddress frame.blocks pointer.address → pointer.birth ≤ frame.group
    → bytes ≡ part image pointer.address 4096 → length bytes ≡ 4096 → drop 64 bytes ≡ payload → IsExpected bytes e → Opens image frame kind number pointer payload
IsExpected-Opens image frame kind number pointer e bytes payload named place born at long behind x =
    record {
      in_area = place;
      born = born;
      block = subst (λ (l : List ℕ). IsBlock l kind frame.guid pointer.birth number payload) at (record {
        size = long;
        agrees = x.agrees;
        kind_is = x.kind ∙ named.kind_is;
        guid_is = x.guid ∙ named.guid_is;
        group_is = rw named.group_is at x.group;
        number_is = x.number ∙ named.number_is;
        payload_is = behind;
      });
      check = sym (check-part_at image pointer.address) ∙ ap (λ (l : List ℕ). part l 32 32) (sym at) ∙ (rw named.check_is at x.check);
    }

-- and it opens as expected where it is there
pub Opens-IsExpected : (image : List ℕ) (frame : Frame) (kind number : ℕ) (pointer : Pointer) (e : Expected) (bytes payload : List ℕ)
    → IsNamed e frame kind number pointer → bytes ≡ part image pointer.address 4096 → Opens image frame kind number pointer payload → IsExpected bytes e
Opens-IsExpected image frame kind number pointer e bytes payload named at o =
    let block : IsBlock bytes kind frame.guid pointer.birth number payload = subst (λ (l : List ℕ). IsBlock l kind frame.guid pointer.birth number payload) (sym at) o.block in
    record {
      agrees = block.agrees;
      kind = block.kind_is ∙ sym named.kind_is;
      guid = block.guid_is ∙ sym named.guid_is;
      number = block.number_is ∙ sym named.number_is;
      group = rw named.group_is block.group_is;
      check = rw named.check_is (ap (λ (l : List ℕ). part l 32 32) at ∙ check-part_at image pointer.address ∙ o.check);
    }
