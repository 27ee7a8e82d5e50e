use Rattle.std.proofs.Common.{◌∙◌, arith, refl}
use Rattle.base.specs.tree.Places.Place.{Top}
use Rattle.block_clients.proofs.maps.an_entry_that_is_laid_stays.Goals as goal

pub returns-clause-top : goal.returns-clause-top
returns-clause-top c = λ e is. c.lay.ensures.pointers (Top 7) (omega arith) ∙ rw is refl
