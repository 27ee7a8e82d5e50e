use Rattle.std.proofs.Common.{cond, Some, ap, ◌∙◌}
use Rattle.std.specs.Cmp.{unsigned_tied}
use Rattle.std.proofs.lemmas.Bool.{ne_eqb}
use Rattle.tree_plans.proofs.Strips.{among_put}
use Rattle.tree_blocks.specs.ReadPointers.{records_among}
use Rattle.group_plans.proofs.old_maps.put_strip.Goals as goal

pub returns-in_ok-insert-clause-others : goal.returns-in_ok-insert-clause-others
returns-in_ok-insert-clause-others c = λ j other.
    among_put _ (λ a b. unsigned_tied a b) c.args.strips.now c.insert.new.self c.args.strip c.in-Some.records c.in_ok-insert.ensures.updates.0 j
    ∙ ap (λ b. cond b (Some c.in-Some.records) (records_among c.args.strips.now.entries j)) (ne_eqb c.args.strip j other)
