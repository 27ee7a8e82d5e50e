use Rattle.std.proofs.Common.{◌≡◌, ◌≤◌, ◌∙◌, ℕ, sym, ap, arith}
use Rattle.std.proofs.lemmas.Bool.{false≢true}
use Rattle.mapped_labels.specs.Shapes.{blocks_below}
use Rattle.space_maps.proofs.clients.a_bit_past_the_area_is_refused.Goals as goal

region : (size : ℕ) → size ≡ 8392704 → blocks_below size 0 0 ≤ 895
region size is = rw is (omega arith)

pub returns-in-Ok : goal.returns-in-Ok
returns-in-Ok c = absurd (false≢true (sym (c.in-Ok.ensures.holds.0 895 (region c.args.shape c.requires.shape) (omega arith)) ∙ c.requires.past))
