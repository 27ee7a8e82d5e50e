use Rattle.std.proofs.Common.{◌≡◌, ◌&&◌, true, false, ap, refl, rules}
use Rattle.std.specs.List.{list_any}
use Rattle.std.proofs.lemmas.Result.{IfErr-weaker, IfOk-weaker}
use Rattle.checked_blocks.specs.Sealing.{padded}
use Rattle.base.specs.tree.Places.{strip_number}
use Rattle.tree_blocks.specs.declared.place.BlockPlace.TheVariants.{Indirect}
use Rattle.tree_plans.specs.Changes.{has_address, may_have_blocks}
use Rattle.tree_plans.specs.Plans.{is_strip_replaced, progress_of}
use Rattle.tree_plans.proofs.Parts.{FitsPointers, above_gone, above_kept, above_made, cleared, indirect_done, kept, taken}
use Rattle.tree_blocks.proofs.Payloads.{padded-full}
use Rattle.tree_plans.proofs.Room.{lacks_here, not_space}
use Rattle.tree_plans.proofs.planner.Planner.place_indirect.Goals as goal

-- it stays
pub returns-then-keeps_strip-clause-planned : goal.returns-then-keeps_strip-clause-planned
returns-then-keeps_strip-clause-planned c =
    let object = c.args.object.now in
    let stays : is_strip_replaced object.is_long object.changes.now c.args.strip ≡ false = (let yes = c.if-keeps_strip.true in let is = c.keeps_strip.ensures in search rules) in
    let state = above_kept _ (may_have_blocks object.is_long object.changes.now.is_changed c.args.strip && list_any has_address c.args.records.now) stays in
    indirect_done _ object c.args.strip (Indirect (strip_number object.id.0 c.args.strip)) c.args.records.now _ _ _ _ refl (kept _ _ _ _ _ state _)

-- it is gone
pub returns-then-not-has_indirect-clause-planned : goal.returns-then-not-has_indirect-clause-planned
returns-then-not-has_indirect-clause-planned c =
    let object = c.args.object.now in
    let goes : is_strip_replaced object.is_long object.changes.now c.args.strip ≡ true = (let no = c.if-keeps_strip.false in let is = c.keeps_strip.ensures in search rules) in
    let none : (may_have_blocks object.is_long object.changes.now.is_changed c.args.strip && list_any has_address c.args.records.now) ≡ false =
    (let no = c.if-not-has_indirect.true in let is = c.has_indirect.ensures in search rules) in
    IfOk-weaker c.clear.result _ _ (λ pointer done. indirect_done _ object c.args.strip (Indirect (strip_number object.id.0 c.args.strip)) c.args.records.now _ _ _ _ refl
    (cleared _ _ _ _ _ (above_gone _ _ goes none) _ _ _ done)) c.clear.ensures.cleared

-- it is written
pub returns-clause-planned : goal.returns-clause-planned
returns-clause-planned c =
    let object = c.args.object.now in
    let goes : is_strip_replaced object.is_long object.changes.now c.args.strip ≡ true = (let no = c.if-keeps_strip.false in let is = c.keeps_strip.ensures in search rules) in
    let some : (may_have_blocks object.is_long object.changes.now.is_changed c.args.strip && list_any has_address c.args.records.now) ≡ true =
    (let yes = c.if-not-has_indirect.false in let is = c.has_indirect.ensures in search rules) in
    let fits : FitsPointers c.args.records.now (padded c.pointer_payload.result) = rw (padded-full c.pointer_payload.result c.pointer_payload.ensures.size) c.pointer_payload.ensures.pointers in
    IfOk-weaker c.place_pointers.result _ _ (λ pointer done. indirect_done _ object c.args.strip _ c.args.records.now _ _ _ _ (ap (λ m. Indirect m) c.strip_number-number.ensures.number)
    (taken _ _ _ _ _ _ (above_made _ _ goes some) fits _ _ _ done)) c.place_pointers.ensures.taken

pub returns-then-not-has_indirect-clause-full : goal.returns-then-not-has_indirect-clause-full
returns-then-not-has_indirect-clause-full c = IfErr-weaker c.clear.result _ _ (λ e no_memory no_space. not_space e no_memory no_space) c.clear.ensures.refused

pub returns-clause-full : goal.returns-clause-full
returns-clause-full c =
    let object = c.args.object.now in
    let goes : is_strip_replaced object.is_long object.changes.now c.args.strip ≡ true = (let no = c.if-keeps_strip.false in let is = c.keeps_strip.ensures in search rules) in
    let some : (may_have_blocks object.is_long object.changes.now.is_changed c.args.strip && list_any has_address c.args.records.now) ≡ true =
    (let yes = c.if-not-has_indirect.false in let is = c.has_indirect.ensures in search rules) in
    IfErr-weaker c.place_pointers.result _ _ (λ e full no_space. lacks_here _ (progress_of c.args.self.now) _ (above_made _ _ goes some) (full no_space)) c.place_pointers.ensures.full
