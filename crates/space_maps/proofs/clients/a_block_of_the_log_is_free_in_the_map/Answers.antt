use Rattle.std.proofs.Common.{◌≡◌, ◌∙◌, Bool, true, false, not, ◌&&◌, ◌||◌, refl, ap, sym, arith}
use Rattle.space.specs.FreeSets.{is_free}
use Rattle.space_maps.proofs.clients.a_block_of_the_log_is_free_in_the_map.Goals as goal

by : (a : Bool) → (((a || true) || false) && not false) ≡ true
by true = refl
by false = refl

pub returns : goal.returns
returns c = c.bit_in.ensures ∙ c.bits_after-bits.ensures.bits 1 (omega arith) ∙ by (is_free 1 c.args.free.now)
