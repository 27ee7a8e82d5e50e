use Rattle.std.proofs.Common.{◌≡◌, rules}
use Rattle.std.proofs.lemmas.Result.{IfErr-weaker, IfOk-weaker}
use Rattle.base.specs.declared.record_state.RecordState.TheVariants.{Dirty, Hole}
use Rattle.checked_blocks.specs.Sealing.{padded}
use Rattle.tree_plans.specs.Plans.{progress_of}
use Rattle.tree_plans.proofs.Parts.{FitsPointers, cleared, root_done, root_told, taken}
use Rattle.tree_blocks.proofs.Payloads.{padded-full}
use Rattle.tree_plans.proofs.Room.{lacks_here}
use Rattle.tree_plans.proofs.walk.place_root.Goals as goal

pub returns-in-Hole-clause-planned : goal.returns-in-Hole-clause-planned
returns-in-Hole-clause-planned g c =
    let is : c.state_of.result ≡ Hole = search rules in
    let told = root_told c.args.objects.now.entries (g.O.ObjectSource.objects c.args.after.now) _ _ _ Hole c.state_of.ensures c.is_empty.ensures c.has_any_object.ensures is in
    IfOk-weaker c.clear.result _ _ (λ pointer done. root_done _ _ _ _ _ _ _ (cleared _ _ _ _ _ told _ _ _ done)) c.clear.ensures.cleared

pub returns-in-Dirty-clause-planned : goal.returns-in-Dirty-clause-planned
returns-in-Dirty-clause-planned g c =
    let is : c.state_of.result ≡ Dirty = search rules in
    let told = root_told c.args.objects.now.entries (g.O.ObjectSource.objects c.args.after.now) _ _ _ Dirty c.state_of.ensures c.is_empty.ensures c.has_any_object.ensures is in
    let fits : FitsPointers c.args.directories.now (padded c.pointer_payload.result) = rw (padded-full c.pointer_payload.result c.pointer_payload.ensures.size) c.pointer_payload.ensures.pointers in
    IfOk-weaker c.place.result _ _ (λ pointer done. root_done _ _ _ _ _ _ _ (taken _ _ _ _ _ _ told fits _ _ _ done)) c.place.ensures.taken

pub returns-in-Dirty-clause-full : goal.returns-in-Dirty-clause-full
returns-in-Dirty-clause-full g c =
    let is : c.state_of.result ≡ Dirty = search rules in
    let told = root_told c.args.objects.now.entries (g.O.ObjectSource.objects c.args.after.now) _ _ _ Dirty c.state_of.ensures c.is_empty.ensures c.has_any_object.ensures is in
    IfErr-weaker c.place.result _ _ (λ e full no_space. lacks_here _ (progress_of c.args.planner.now) _ told (full no_space)) c.place.ensures.full
