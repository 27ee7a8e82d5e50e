use Rattle.std.proofs.Common.{◌≡◌, ◌||◌, Bool, length, arith, ap, inl, refl, rules, ◌∙◌}
use Rattle.base.specs.tree.Syncs.{is_dirty}
use Rattle.tree_plans.specs.Plans.{state_above}
use Rattle.tree_plans.specs.Pointers.{entry_pointer_of, old_tree}
use Rattle.tree_plans.specs.Walks.{has_object, is_directory_dirty, is_directory_replaced, is_directory_touched}
use Rattle.tree_plans.proofs.Progress.{goes_nowhere, goes_twice}
use Rattle.tree_plans.proofs.Walks.{directories_push, directories_free_push}
use Rattle.tree_plans.proofs.Uses.{pointers_use_push}
use Rattle.tree_plans.proofs.Once.{directories_once_push}
use Rattle.tree_plans.proofs.Order.{adds_begun, adds_push}
use Rattle.tree_plans.proofs.Room.{handed_on, lacks_at}
use Rattle.tree_plans.proofs.walk.place_directories.Goals as goal

pub loop-index-init : goal.loop-index-init
loop-index-init g c = record {
  geometry = search rules;
  count = search rules;
  room = search rules;
  kept = λ none. refl;
  goes = goes_nowhere _ _;
  planned = λ r low. absurd (omega arith);
  frees = λ address among. inl among;
  once = λ apart fresh distinct. distinct;
  uses = λ address taken. inl taken;
  adds = adds_begun _ _ _;
}

pub loop-index-preserved : goal.loop-index-preserved
loop-index-preserved g c =
    let objects = c.args.objects.now.entries in
    let after = g.O.ObjectSource.objects c.args.after.now in
    let was = c.args.source.now.tree.now.directories.items in
    let long : length c.loop-index.directories.items ≡ c.loop-index.index = omega (arith, c.loop-index.directories.ok.0, c.loop-index.invariant.count) in
    let touched : c.is_replaced-touched.result ≡ is_directory_replaced objects after c.loop-index.index = c.is_replaced-touched.ensures ∙ ap (λ (b : Bool). b || is_directory_touched objects c.loop-index.index) c.is_emptied-emptied.ensures in
    let state = ap (λ (b : Bool). state_above b (has_object after c.loop-index.index)) touched in
    record {
      geometry = c.in_ok-pointer.ensures.geometry ∙ c.loop-index.invariant.geometry;
      count = omega (arith, c.push_reserved.ensures.len, c.loop-index.invariant.count);
      room = omega (arith, c.push_reserved.ensures.capacity, c.loop-index.invariant.room);
      kept = λ none. c.in_ok-pointer.ensures.kept (touched ∙ ap (λ l. is_directory_replaced l after c.loop-index.index) none) ∙ c.loop-index.invariant.kept none;
      goes = goes_twice c.loop-index.invariant.goes c.in_ok-pointer.ensures.planned.goes;
      planned = rw c.push_reserved.ensures.items (directories_push (entry_pointer_of c.args.source.now.tree.now.entries.items) c.args.entries.now.entries after objects was _ _ _ _ c.in_ok-pointer.ensures.planned.goes long state c.loop-index.invariant.planned c.in_ok-pointer.ensures.planned.planned);
      frees = directories_free_push _ _ _ objects after was _ _ state c.loop-index.invariant.frees c.in_ok-pointer.ensures.planned.frees;
      once = λ apart. directories_once_push (old_tree c.args.source.now) _ _ _ objects after _ _ state c.loop-index-test.true apart c.loop-index.invariant.frees (c.loop-index.invariant.once apart) c.in_ok-pointer.ensures.planned.once;
      uses = rw c.push_reserved.ensures.items (pointers_use_push _ _ _ _ _ _ long c.loop-index.invariant.uses c.in_ok-pointer.ensures.planned.uses);
      adds = rw c.push_reserved.ensures.items (adds_push (is_directory_dirty objects after) _ _ _ _ _ _ _ long (ap is_dirty state) c.loop-index.invariant.adds c.in_ok-pointer.ensures.planned.adds);
    }

pub returns-clause-planned : goal.returns-clause-planned
returns-clause-planned g c =
    let done : c.loop-index.index ≡ 84 = omega arith in
    record {
      goes = c.loop-index.invariant.goes;
      planned = rw done at c.loop-index.invariant.planned;
      frees = rw done at c.loop-index.invariant.frees;
      once = rw done at c.loop-index.invariant.once;
      uses = rw done at c.loop-index.invariant.uses;
      adds = rw done at c.loop-index.invariant.adds;
    }

pub returns-in_err-pointer-clause-full : goal.returns-in_err-pointer-clause-full
returns-in_err-pointer-clause-full g c =
    let objects = c.args.objects.now.entries in
    let after = g.O.ObjectSource.objects c.args.after.now in
    let touched : c.is_replaced-touched.result ≡ is_directory_replaced objects after c.loop-index.index = c.is_replaced-touched.ensures ∙ ap (λ (b : Bool). b || is_directory_touched objects c.loop-index.index) c.is_emptied-emptied.ensures in
    let state = ap (λ (b : Bool). is_dirty (state_above b (has_object after c.loop-index.index))) touched in
    handed_on c.from_residual-in_err-pointer.result _ _ c.from_residual-in_err-pointer.ensures.1 (λ no_space. lacks_at _ _ _ (is_directory_dirty objects after) _ c.loop-index.index 84 _ c.loop-index-test.true state
    c.loop-index.invariant.goes c.loop-index.invariant.adds (c.in_err-pointer.ensures.full no_space))
