use Rattle.std.proofs.Common.{◌≡◌, ◌∙◌, Bool, true, false, not, ◌&&◌, ◌||◌, refl, ap, sym, arith}
use Rattle.space.specs.FreeSets.{is_free}
use Rattle.space_maps.proofs.clients.a_taken_block_is_used_after_the_sync.Goals as goal

by : (a : Bool) → (((a || false) || false) && not true) ≡ false
by true = refl
by false = refl

pub returns : goal.returns
returns c = c.bit_in.ensures ∙ c.bits_after-bits.ensures.bits 1 (omega arith) ∙ by (is_free 1 c.args.free.now)
