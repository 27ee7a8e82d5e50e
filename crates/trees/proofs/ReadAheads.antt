-- Data blocks that are read ahead.
use Rattle.std.proofs.Common.{◌≡◌, ℕ, zero, suc, Bool, true, false, ◌&&◌, ap, nat_eq, List, [], ◌∷◌, length, get_or, Option, Some, None, refl, subst, sym, ◌∙◌}
use Rattle.std.specs.Prelude.{IsTrue}
use Rattle.std.specs.Bool.{then_some}
use Rattle.std.specs.Cmp.Lexicographic.{pointwise, same_text}
use Rattle.std.proofs.lemmas.Bool.{eqb-true, and_parts}
use Rattle.base.specs.declared.pointer.Pointer.{Pointer}
use Rattle.std.proofs.lemmas.Option.{none-some, same_Some}
use Rattle.base.specs.formats.Blocks.{Frame}
use Rattle.base.specs.formats.Geometry.{IsBlockAddress}
use Rattle.checked_blocks.specs.declared.expected.Expected.{Expected}
use Rattle.checked_blocks.specs.Opening.{IsExpected}
use Rattle.checked_blocks.proofs.NamedBlocks.{IsNamed}
use Rattle.trees.specs.declared.read_ahead.ReadRecord.{ReadRecord}
use Rattle.trees.specs.ReadAhead.{AreReadRecords, IsRead, IsReadRecord}
use Rattle.object_maps.proofs.BlockReads.{block_opens}

-- pointers that a test finds the same are
of_parts : (p q : Pointer) → p.address ≡ q.address → p.birth ≡ q.birth → p.check ≡ q.check → p ≡ q
of_parts p q e f g =
    ap (λ (a : ℕ). record { address = a; birth = p.birth; check = p.check }) e
    ∙ ap (λ (b : ℕ). record { address = q.address; birth = b; check = p.check }) f
    ∙ ap (λ (c : List ℕ). record { address = q.address; birth = q.birth; check = c }) g

pub same_pointer : (p q : Pointer) → true ≡ (nat_eq p.address q.address && (nat_eq p.birth q.birth && pointwise nat_eq p.check q.check)) → p ≡ q
same_pointer p q same =
    let address = and_parts (nat_eq p.address q.address) (nat_eq p.birth q.birth && pointwise nat_eq p.check q.check) (sym same) in
    let birth = and_parts (nat_eq p.birth q.birth) (pointwise nat_eq p.check q.check) address.1 in
    of_parts p q (eqb-true p.address q.address address.0) (eqb-true p.birth q.birth birth.0) (same_text p.check q.check (sym birth.1))

pub placed_same : (frame : Frame) (p q : Pointer) → p ≡ q → IsBlockAddress frame.blocks p.address → IsBlockAddress frame.blocks q.address
placed_same frame p q same placed = subst (λ (x : Pointer). IsBlockAddress frame.blocks x.address) same placed

-- a block that was read and is as expected is the one that its pointer names
pub one_opened : (keeps : Bool) (image : List ℕ) (frame : Frame) (read : ReadRecord) (e : Expected) → IsNamed e frame 5 read.number read.pointer → length read.block ≡ 4096
    → IsRead keeps image frame read → (is : Bool) → (IsTrue is → IsExpected read.block e) → (o : Option ReadRecord) → o ≡ then_some is read
    → (opened : ReadRecord) → o ≡ Some opened → IsReadRecord keeps image frame opened
one_opened keeps image frame read e named long was is expected o made opened found = go is expected (sym made ∙ found)
  where
    go : (is : Bool) → (IsTrue is → IsExpected read.block e) → then_some is read ≡ Some opened → IsReadRecord keeps image frame opened
    go true there same =
        subst (λ (r : ReadRecord). IsReadRecord keeps image frame r) (same_Some read opened same)
        (was.0.0, λ k. block_opens image frame 5 read.number read.pointer e read.block named was.0.0 was.0.1 (was.1 k) long (there refl))
    go false none same = absurd (none-some opened same)

-- each of four is what was read if it is there
pub four_opened : (keeps : Bool) (image : List ℕ) (frame : Frame) (a b c d : Option ReadRecord)
    → ((read : ReadRecord) → a ≡ Some read → IsReadRecord keeps image frame read) → ((read : ReadRecord) → b ≡ Some read → IsReadRecord keeps image frame read)
    → ((read : ReadRecord) → c ≡ Some read → IsReadRecord keeps image frame read) → ((read : ReadRecord) → d ≡ Some read → IsReadRecord keeps image frame read)
    → AreReadRecords keeps image frame (a ∷ b ∷ c ∷ d ∷ [])
four_opened keeps image frame a b c d first second third fourth = go
  where
    go : (i : ℕ) (read : ReadRecord) → get_or (a ∷ b ∷ c ∷ d ∷ []) i None ≡ Some read → IsReadRecord keeps image frame read
    go zero read e = first read e
    go (suc zero) read e = second read e
    go (suc (suc zero)) read e = third read e
    go (suc (suc (suc zero))) read e = fourth read e
    go (suc (suc (suc (suc i)))) read e = absurd (none-some read e)
