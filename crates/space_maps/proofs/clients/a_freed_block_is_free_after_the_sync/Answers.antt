use Rattle.std.proofs.Common.{◌≡◌, ◌∙◌, Bool, true, false, not, ◌&&◌, ◌||◌, refl, ap, sym, arith}
use Rattle.space.specs.FreeSets.{is_free}
use Rattle.space_maps.proofs.clients.a_freed_block_is_free_after_the_sync.Goals as goal

by : (a : Bool) → (((a || false) || true) && not false) ≡ true
by true = refl
by false = refl

pub returns : goal.returns
returns c = c.bit_in.ensures ∙ c.bits_after-bits.ensures.bits 1 (omega arith) ∙ by (is_free 1 c.args.free.now)
