use Rattle.std.proofs.Common.{◌∙◌, ap, sym}
use Rattle.std.specs.Cmp.{unsigned_tied}
use Rattle.std.specs.Prelude.{Option}
use Rattle.std.specs.Option.{option_map_or}
use Rattle.base.specs.declared.record_state.RecordState.TheVariants.{Unchanged}
use Rattle.tree_plans.specs.declared.changes.ObjectChanges.{ObjectChanges}
use Rattle.tree_plans.specs.Changes.{state_at}
use Rattle.tree_plans.proofs.Walks.{left_of, taken_of}
use Rattle.tree_plans.proofs.changes.take_changes.Goals as goal

pub returns-in-Some-clause-records : goal.returns-in-Some-clause-records
returns-in-Some-clause-records c = λ r.
    let there = taken_of _ (λ a b. unsigned_tied a.0 b.0) c.args.objects.now c.args.id c.in-Some.changes (sym c.in-Some.is ∙ c.remove.ensures.value) in
    sym (ap (λ (o : Option ObjectChanges). option_map_or (λ (changes : ObjectChanges). state_at changes r) o Unchanged) there)

pub returns-in-Some-clause-others : goal.returns-in-Some-clause-others
returns-in-Some-clause-others c = left_of _ (λ a b. unsigned_tied a.0 b.0) c.args.objects.now c.remove.new.self c.args.id c.remove.ensures.updates.0
