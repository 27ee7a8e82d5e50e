use Rattle.std.proofs.Common.{◌≡◌, ◌∙◌, ℕ, List, ◌++◌, Some, None, ap, sym, append-nil, arith}
use Rattle.std.specs.Ordering.{nat_cmp}
use Rattle.std.specs.FinMap.{FinMap}
use Rattle.base.specs.formats.Limits.{object_count}
use Rattle.base.specs.declared.names.ObjectId.{ObjectId}
use Rattle.tree_blocks.proofs.ListedObjects.{listed_at, listed_below, listed_below-all, listed_next}
use Rattle.inspections.proofs.object_lists.list_objects.Goals as goal
use Rattle.inspections.proofs.object_lists.list_objects.Goals.{in-Some+in_ok-push, in_default}

pub loop-number-init : goal.loop-number-init
unfolding listed_below
loop-number-init g c = c.new-list.ensures.items

pub loop-number-preserved : goal.loop-number-preserved
loop-number-preserved g c =
    let objects : FinMap nat_cmp (List ℕ) = g.O.ObjectSource.objects c.args.objects.now in
    let n : ℕ = c.loop-number.number in
    let so_far = c.loop-number.invariant in
    elim c.match-length.branch [
      | in-Some+in_ok-push w ↦ rw w.list-is (w.in_ok-push.ensures.items ∙ ap (λ (l : List (ObjectId × ℕ)). l ++ listed_at n (Some w.in-Some.length)) so_far
          ∙ listed_next objects n (Some w.in-Some.length) (sym w.in-Some.is ∙ c.length.ensures))
      | in_default w ↦ rw w.list-is (so_far ∙ sym (append-nil (listed_below objects n)) ∙ listed_next objects n None (sym w.in_default.is ∙ c.length.ensures))
    ]

pub returns : goal.returns
returns g c = λ within.
    let objects : FinMap nat_cmp (List ℕ) = g.O.ObjectSource.objects c.args.objects.now in
    let last : c.loop-number.number ≡ object_count = omega arith in
    c.loop-number.invariant ∙ ap (listed_below objects) last ∙ listed_below-all objects within
