use Rattle.std.proofs.Common.{◌≡◌, ℕ, ◌<◌, IfErr, ap, arith, inr, length, refl, rules, subst, ◌∙◌}
use Rattle.std.specs.Cmp.{unsigned_tied}
use Rattle.std.proofs.lemmas.Result.{IfErr-weaker}
use Rattle.base.specs.declared.error.PoolError.TheVariants.{NoMemory}
use Rattle.tree_plans.specs.declared.changed_object.ChangedObject.{ChangedObject}
use Rattle.tree_blocks.specs.Entries.{is_long_size}
use Rattle.tree_plans.specs.Plans.{progress_of}
use Rattle.tree_plans.specs.Pointers.{IsPut}
use Rattle.tree_plans.specs.Room.{Lacks}
use Rattle.tree_plans.proofs.Passes.{entry_tells, map_is_read, object_needed, object_passes}
use Rattle.tree_plans.proofs.Progress.{goes_nowhere}
use Rattle.tree_plans.proofs.Room.{handed_on, not_space}
use Rattle.tree_plans.proofs.Walks.{object_passed, put_of}
use Rattle.tree_plans.proofs.walk.place_changed.Goals as goal

pub returns-then-id-ge-OBJECT_COUNT-clause-planned : goal.returns-then-id-ge-OBJECT_COUNT-clause-planned
returns-then-id-ge-OBJECT_COUNT-clause-planned g c = record {
  goes = goes_nowhere _ _;
  planned = λ objects done is planned. object_passed _ _ _ objects done _ c.args.id c.args.changes.now (λ low. absurd (omega arith)) planned;
  frees = λ objects first is frees. frees;
  once = λ objects first is none apart frees once. once;
  uses = λ first none uses. uses;
  others = λ n other. refl;
  adds = λ objects is low within. absurd (omega arith);
}

pub returns-clause-planned : goal.returns-clause-planned
returns-clause-planned g c =
    let source = c.args.source.now in
    let tree = source.tree.now in
    let low : c.args.id.0 < length tree.entries.items = omega (arith, tree.all_objects, tree.entries.ok.0, c.if-id-ge-OBJECT_COUNT.false) in
    let told_is = c.entry_strips-told.ensures ∙ entry_tells tree.entries.items c.args.id.0 c.index.result.now low c.index.ensures in
    let object : ChangedObject = record { id = c.args.id; is_long = c.is_long.result; old = c.old_map.result; changes = c.args.changes } in
    let entry = c.in_ok-entry.entry in
    let put : IsPut c.args.entries.now.entries c.args.id entry c.insert.new.self.entries = put_of _ (λ a b. unsigned_tied a.0 b.0) c.args.entries.now c.insert.new.self c.args.id entry c.in_ok-insert.ensures.updates.0 in
    object_passes source (g.O.ObjectSource.objects c.args.after.now) object c.if-id-ge-OBJECT_COUNT.false _ told_is c.old_map.ensures (c.is_long.ensures ∙ ap is_long_size c.length.ensures)
    _ _ entry c.args.entries.now.entries c.insert.new.self.entries put c.in_ok-entry.ensures.planned c.in_ok-entry.ensures.length

-- the map was read as its object's levels after the group ask
pub place_object-requires-clause-levels : goal.place_object-requires-clause-levels
place_object-requires-clause-levels g c = c.is_long.ensures ∙ ap is_long_size c.length.ensures

pub place_object-requires-clause-read : goal.place_object-requires-clause-read
place_object-requires-clause-read g c = map_is_read c.args.source.now (g.O.ObjectSource.objects c.args.after.now) c.args.id c.args.changes.now c.old_map.result.now c.is_long.result
    (c.requires.map c.if-id-ge-OBJECT_COUNT.false) c.old_map.ensures (c.is_long.ensures ∙ ap is_long_size c.length.ensures)

pub returns-in_err-entry-clause-full : goal.returns-in_err-entry-clause-full
returns-in_err-entry-clause-full g c =
    let source = c.args.source.now in
    let tree = source.tree.now in
    let low : c.args.id.0 < length tree.entries.items = omega (arith, tree.all_objects, tree.entries.ok.0, c.if-id-ge-OBJECT_COUNT.false) in
    let told_is = c.entry_strips-told.ensures ∙ entry_tells tree.entries.items c.args.id.0 c.index.result.now low c.index.ensures in
    let object : ChangedObject = record { id = c.args.id; is_long = c.is_long.result; old = c.old_map.result; changes = c.args.changes } in
    handed_on c.from_residual.result _ _ c.from_residual.ensures.1 (λ objects is within no_space. subst (λ (count : ℕ). Lacks source.free.now.free (progress_of c.args.planner.now) count)
    (object_needed source (g.O.ObjectSource.objects c.args.after.now) object c.if-id-ge-OBJECT_COUNT.false _ told_is c.old_map.ensures (c.is_long.ensures ∙ ap is_long_size c.length.ensures) objects is within) (c.in_err-entry.ensures.full no_space))

pub returns-in_err-entry-clause-refused : goal.returns-in_err-entry-clause-refused
returns-in_err-entry-clause-refused g c = handed_on c.from_residual.result _ _ c.from_residual.ensures.1 c.in_err-entry.ensures.refused

pub returns-in_err-insert-clause-full : goal.returns-in_err-insert-clause-full
returns-in_err-insert-clause-full g c =
    let want : IfErr c.from_residual-in_err-insert.result (λ e. e ≡ NoMemory) = search rules in
    IfErr-weaker c.from_residual-in_err-insert.result _ _ (λ e no_memory objects is within no_space. not_space e no_memory no_space) want

pub returns-in_err-insert-clause-refused : goal.returns-in_err-insert-clause-refused
returns-in_err-insert-clause-refused g c =
    let want : IfErr c.from_residual-in_err-insert.result (λ e. e ≡ NoMemory) = search rules in
    IfErr-weaker c.from_residual-in_err-insert.result _ _ (λ e no_memory. inr no_memory) want
