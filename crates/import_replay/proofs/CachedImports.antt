-- An import goes by a device with a cache. What it says of the devices inside, it says of the one that was put in and
-- of the one that is taken out.
use Rattle.std.proofs.Common.{◌≡◌, subst, sym}

pub holds_outside : {Dev : Type 0} {old inner_old inner_new new : Dev} → inner_old ≡ old → new ≡ inner_new → (P : Dev → Dev → Type 0) → P inner_old inner_new → P old new
holds_outside {Dev} {old} {inner_old} {inner_new} {new} put_in taken_out P holds = subst (λ (d : Dev). P d new) put_in (subst (λ (d : Dev). P inner_old d) (sym taken_out) holds)
