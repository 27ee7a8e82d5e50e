use Rattle.std.proofs.Common.{rules, ◌≡◌, ◌∙◌, ℕ, Option, Some, ap, sym}
use Rattle.std.specs.Prelude.{filter, nat_lt}
use Rattle.std.proofs.lemmas.Fn.{filter_same}
use Rattle.tree_plans.proofs.DirtyRecords.{dropped, hole_from}
use Rattle.tree_plans.proofs.changes.ObjectChanges.drop_from.Goals as goal
use Rattle.tree_plans.proofs.changes.ObjectChanges.drop_from.Goals.{in-Some, in-None}

pub returns-clause-records : goal.returns-clause-records
returns-clause-records c = λ r.
    let left : c.retain.new.self.keys ≡ filter (λ k. nat_lt k c.args.index) c.args.self.now.dirty.keys = filter_same _ _ _ (λ x b f' k. search rules) _ _ c.retain.ensures.filtered in
    let first : c.match-self.self ≡ Some (hole_from c.args.self.now.first_hole c.args.index) = elim c.match-self.branch [
      | in-Some w ↦ w.self-is ∙ ap Some w.min.ensures ∙ sym (ap (λ (o : Option ℕ). Some (hole_from o c.args.index)) w.in-Some.is)
      | in-None w ↦ w.self-is ∙ sym (ap (λ (o : Option ℕ). Some (hole_from o c.args.index)) w.in-None.is)
    ] in
    rw first (dropped c.args.self.now.dirty.keys c.retain.new.self.keys c.args.self.now.first_hole c.args.index r left)
