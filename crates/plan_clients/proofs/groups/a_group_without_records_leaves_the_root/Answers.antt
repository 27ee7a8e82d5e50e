use Rattle.std.proofs.Common.{◌≡◌, ◌∙◌, ◌∷◌, [], false, true, ℕ, List, ap, length, refl, sym}
use Rattle.std.specs.Prelude.{is_some}
use Rattle.std.specs.List.{list_any}
use Rattle.std.proofs.lemmas.Bool.{eq-eqb, true≢false}
use Rattle.std.proofs.lemmas.List.{length-map}
use Rattle.std.proofs.lemmas.Result.{IfOk-weaker}
use Rattle.base.specs.declared.names.ObjectId.{ObjectId}
use Rattle.base.specs.tree.Syncs.{is_on}
use Rattle.records.specs.declared.record.Record.{Record}
use Rattle.tree_plans.specs.declared.changes.ObjectChanges.{ObjectChanges}
use Rattle.tree_plans.specs.Marks.{pending_ops}
use Rattle.tree_plans.specs.Plans.{new_block}
use Rattle.tree_plans.specs.Pointers.{entry_of}
use Rattle.tree_plans.specs.Walks.{is_any_touched}
use Rattle.plan_clients.proofs.groups.a_group_without_records_leaves_the_root.Goals as goal

-- changes that are of no object are none
no_changes : (objects : List (ObjectId × ObjectChanges)) → ((n : ℕ) → is_some (entry_of objects n) ≡ false) → objects ≡ []
no_changes [] none = refl
no_changes (x ∷ xs) none = absurd (true≢false (sym (there x xs) ∙ none x.0.0))
  where
    there : (x : ObjectId × ObjectChanges) (xs : List (ObjectId × ObjectChanges)) → is_some (entry_of (x ∷ xs) x.0.0) ≡ true
    there x xs = rw (eq-eqb x.0.0 x.0.0 refl) refl

pub returns : goal.returns
returns g c = IfOk-weaker c.plan_group.result _ _ (λ p made.
    let places = made.1.places in
    let none = no_changes places.objects (λ n. places.changes.there n ∙ ap (λ (rs : List Record). list_any (is_on n) (pending_ops c.args.source.now.group.0 rs)) c.requires.none) in
    (made.1.upper.kept_root (ap is_any_touched none), sym (length-map p.blocks.items new_block) ∙ ap length (places.none none))) c.plan_group.ensures.tree
