use Rattle.std.proofs.Common.{◌≡◌, length, arith, inl, refl, rules, ◌∙◌}
use Rattle.tree_plans.specs.Plans.{is_indirect_made}
use Rattle.tree_plans.proofs.Levels.{indirects_push}
use Rattle.tree_plans.proofs.Order.{adds_begun}
use Rattle.tree_plans.proofs.Progress.{goes_nowhere}
use Rattle.tree_plans.proofs.Room.{handed_on, lacks_at}
use Rattle.tree_plans.proofs.planner.Planner.place_indirects.Goals as goal

pub loop-strip-init : goal.loop-strip-init
loop-strip-init c = record {
  geometry = search rules;
  count = search rules;
  room = search rules;
  done = record {
    goes = goes_nowhere _ _;
    planned = λ j low. absurd (omega arith);
    frees = λ address among. inl among;
    once = λ apart fresh distinct. distinct;
    uses = λ address taken. inl taken;
    adds = adds_begun _ _ _;
  };
}

pub loop-strip-preserved : goal.loop-strip-preserved
loop-strip-preserved c =
    let long : length c.loop-strip.indirects.items ≡ c.loop-strip.strip = omega (arith, c.loop-strip.indirects.ok.0, c.loop-strip.invariant.count) in
    record {
      geometry = c.in_ok-pointer.ensures.geometry ∙ c.loop-strip.invariant.geometry;
      count = omega (arith, c.push_reserved.ensures.len, c.loop-strip.invariant.count);
      room = omega (arith, c.push_reserved.ensures.capacity, c.loop-strip.invariant.room);
      done = rw c.push_reserved.ensures.items (indirects_push _ c.args.object.now c.args.strips.now.entries c.loop-strip.strip c.loop-strip-test.true _ _ _ _ _ long c.loop-strip.invariant.done c.in_ok-pointer.ensures.planned);
    }

pub returns-clause-planned : goal.returns-clause-planned
returns-clause-planned c =
    let done : c.loop-strip.strip ≡ 84 = omega arith in
    rw done at c.loop-strip.invariant.done

pub returns-in_err-pointer-clause-full : goal.returns-in_err-pointer-clause-full
returns-in_err-pointer-clause-full c =
    handed_on c.from_residual-in_err-pointer.result _ _ c.from_residual-in_err-pointer.ensures.1 (λ no_space. lacks_at _ _ _ (is_indirect_made c.args.object.now c.args.strips.now.entries) _ c.loop-strip.strip 84 _ c.loop-strip-test.true refl
    c.loop-strip.invariant.done.goes c.loop-strip.invariant.done.adds (c.in_err-pointer.ensures.full no_space))
