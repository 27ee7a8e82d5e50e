use Rattle.std.proofs.Common.{◌≡◌, Bool, true, false, ap, arith, refl}
use Rattle.base.specs.declared.pointer.Pointer.{Pointer}
use Rattle.base.specs.formats.Fields.{no_pointer, pointer_in}
use Rattle.block_clients.proofs.payloads.a_top_names_no_strip_past_the_length.Goals as goal

-- the second strip begins at byte 338,688
pub returns : goal.returns
returns c = by_test c.are_strips.result refl
  where
    by_test : (accepted : Bool) → c.are_strips.result ≡ accepted → c.are_strips.result ≡ false
    by_test false is = is
    by_test true is =
        let none : pointer_in c.args.payload.now 1 ≡ no_pointer = (c.are_strips.ensures.0 is 1 (omega arith)).1 (omega arith) in
        absurd (omega (arith, c.requires.second, ap (λ (p : Pointer). p.address) none))
