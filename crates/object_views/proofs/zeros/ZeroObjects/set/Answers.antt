use Rattle.std.proofs.Common.{◌≡◌, ◌∙◌, ◌<◌, ℕ, List, Option, None, Some, length, get_or, ap, arith, subst, sym}
use Rattle.std.specs.Ordering.{nat_cmp}
use Rattle.std.specs.FinMap.{FinMap}
use Rattle.std.proofs.Math.ListN.{set}
use Rattle.tree_blocks.specs.Sources.{object_length}
use Rattle.object_views.proofs.ZeroObjects.{length_elsewhere, length_here, sized_more}
use Rattle.object_views.proofs.zeros.ZeroObjects.set.Goals as goal

pub invariant_of-self : goal.invariant_of-self
invariant_of-self c =
    let old = c.args.self.now in
    let n : ℕ = c.args.object.0 in
    let lengths : List (Option ℕ) = old.lengths.items in
    let low : n < length lengths = omega (arith, c.requires, old.lengths.ok.0, old.all_objects) in
    record {
      all_objects = old.all_objects;
      sized = subst (λ (m : FinMap nat_cmp (List ℕ)). (q : ℕ) → get_or (set lengths n (Some c.args.length)) q None ≡ object_length m q) (sym c.with_object.ensures)
          (sized_more old.told.value n c.args.length c.zero_bytes.result.value c.zero_bytes.ensures lengths low old.sized);
    }

pub returns-clause-length : goal.returns-clause-length
returns-clause-length c =
    ap (λ (m : FinMap nat_cmp (List ℕ)). object_length m c.args.object.0) c.with_object.ensures ∙ length_here c.args.self.now.told.value c.args.object.0 c.args.length c.zero_bytes.result.value c.zero_bytes.ensures

pub returns-clause-others : goal.returns-clause-others
returns-clause-others c = λ n other.
    ap (λ (m : FinMap nat_cmp (List ℕ)). object_length m n) c.with_object.ensures ∙ length_elsewhere c.args.self.now.told.value c.args.object.0 c.args.length c.zero_bytes.result.value c.zero_bytes.ensures n other
