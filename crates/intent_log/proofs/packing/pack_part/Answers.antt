use Rattle.std.proofs.Common.{List, ℕ, subst}
use Rattle.intent_log.specs.Packing.{HoldsUsed}
use Rattle.intent_log.proofs.PackedRecords.{holds_used}
use Rattle.intent_log.proofs.packing.pack_part.Goals as goal

pub returns : goal.returns
returns c =
    subst (λ (l : List ℕ). HoldsUsed c.args.place.now c.seal.result l) c.next_part.ensures.part
    (holds_used c.args.place.now c.seal.result c.next_part.result.now c.next_part.ensures.fits c.seal.ensures)
