use Rattle.std.proofs.Common.{◌≡◌, ◌&&◌, true, false, refl, rules}
use Rattle.std.specs.List.{list_any}
use Rattle.std.proofs.lemmas.Result.{IfOk-weaker}
use Rattle.checked_blocks.specs.Sealing.{padded}
use Rattle.tree_plans.specs.Changes.{has_address}
use Rattle.tree_plans.proofs.Parts.{FitsPointers, above_gone, above_made, cleared, taken, top_done}
use Rattle.tree_blocks.proofs.Payloads.{padded-full}
use Rattle.tree_plans.proofs.planner.Planner.place_top.Goals as goal

pub returns-then-not-has_top-clause-planned : goal.returns-then-not-has_top-clause-planned
returns-then-not-has_top-clause-planned c =
    let object = c.args.object.now in
    let none : ((object.is_long && object.changes.now.is_changed) && list_any has_address c.args.indirects.now) ≡ false = (let no = c.if-not-has_top.true in let is = c.has_top.ensures in search rules) in
    IfOk-weaker c.clear.result _ _ (λ pointer done. top_done _ object c.args.indirects.now _ _ _ (cleared _ _ _ _ _ (above_gone _ _ refl none) _ _ _ done) done.frees done.once) c.clear.ensures.cleared

pub returns-clause-planned : goal.returns-clause-planned
returns-clause-planned c =
    let object = c.args.object.now in
    let some : ((object.is_long && object.changes.now.is_changed) && list_any has_address c.args.indirects.now) ≡ true = (let yes = c.if-not-has_top.false in let is = c.has_top.ensures in search rules) in
    let fits : FitsPointers c.args.indirects.now (padded c.pointer_payload.result) = rw (padded-full c.pointer_payload.result c.pointer_payload.ensures.size) c.pointer_payload.ensures.pointers in
    IfOk-weaker c.place.result _ _ (λ pointer done. top_done _ object c.args.indirects.now _ _ _ (taken _ _ _ _ _ _ (above_made _ _ refl some) fits _ _ _ done) done.frees done.once) c.place.ensures.taken
