use Rattle.std.proofs.Common.{◌≡◌, ◌∙◌, Bool, true, false, not, ◌&&◌, ◌||◌, refl, ap, sym, arith}
use Rattle.space_maps.proofs.clients.a_block_that_a_later_group_frees_stays_used.Goals as goal

by : (a : Bool) → a ≡ false → (((a || false) || false) && not false) ≡ false
by true is = is
by false is = refl

pub returns : goal.returns
returns c = c.bit_in.ensures ∙ c.bits_after-bits.ensures.bits 1 (omega arith) ∙ by _ c.requires
