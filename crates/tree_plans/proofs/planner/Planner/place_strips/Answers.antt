use Rattle.std.proofs.Common.{◌≡◌, ◌+◌, ◌-◌, ◌<◌, ℕ, arith, inl, rules, ◌∙◌}
use Rattle.tree_plans.specs.Plans.{is_dirty_in, records_with}
use Rattle.tree_plans.specs.Parts.{old_in}
use Rattle.tree_plans.proofs.Order.{strips_begun}
use Rattle.tree_plans.proofs.PassedStrips.{all_passed}
use Rattle.tree_plans.proofs.Progress.{goes_nowhere}
use Rattle.tree_plans.proofs.Room.{handed_on, lacks_strip}
use Rattle.tree_plans.proofs.planner.Planner.place_strips.Goals as goal

pub loop-strip-init : goal.loop-strip-init
loop-strip-init g c = record {
  geometry = search rules;
  met = record {
    whole = λ j. search rules;
    below = λ j there. search rules;
    over = λ j there. search rules;
    met = λ j low none. absurd (omega arith);
  };
  done = record {
    goes = goes_nowhere _ _;
    planned = λ j low. absurd (omega arith);
    frees = λ address among. inl among;
    once = λ apart fresh distinct. distinct;
    uses = λ address taken. inl taken;
    adds = strips_begun _ _ _;
  };
}

pub loop-strip-preserved : goal.loop-strip-preserved
loop-strip-preserved g c = record {
  geometry = c.in_ok-place_strip.ensures.geometry ∙ c.loop-strip.invariant.geometry;
  met = c.in_ok-place_strip.ensures.planned.met c.loop-strip.invariant.met;
  done = c.in_ok-place_strip.ensures.planned.done _ c.loop-strip.invariant.met c.loop-strip.invariant.done;
}

-- past the last strip that the plan goes over nothing changes
pub returns-clause-met : goal.returns-clause-met
returns-clause-met g c =
    let inv = c.loop-strip.invariant in
    let end = c.met_end-strip-end.ensures in
    let n : ℕ = c.loop-strip.strip in
    let past = c.loop-strip-test.false in
    let all : n + (84 - n) ≡ 84 = omega (arith, end.low) in
    rw all at (all_passed _ c.args.object.now _ c.requires.read _ _ _ n (84 - n) (omega (arith, all)) (λ j from. end.unread j (omega (arith, from, past))) (λ j from. end.clean j (omega (arith, from, past)))
    (record { met = inv.met; done = inv.done })).met

pub returns-clause-planned : goal.returns-clause-planned
returns-clause-planned g c =
    let inv = c.loop-strip.invariant in
    let end = c.met_end-strip-end.ensures in
    let n : ℕ = c.loop-strip.strip in
    let past = c.loop-strip-test.false in
    let all : n + (84 - n) ≡ 84 = omega (arith, end.low) in
    rw all at (all_passed _ c.args.object.now _ c.requires.read _ _ _ n (84 - n) (omega (arith, all)) (λ j from. end.unread j (omega (arith, from, past))) (λ j from. end.clean j (omega (arith, from, past)))
    (record { met = inv.met; done = inv.done })).done

pub returns-in_err-place_strip-clause-full : goal.returns-in_err-place_strip-clause-full
returns-in_err-place_strip-clause-full g c =
    let object = c.args.object.now in
    let low : c.loop-strip.strip < 84 = omega (arith, c.loop-strip-test.true, c.met_end-strip-end.ensures.low) in
    handed_on c.from_residual.result _ _ c.from_residual.ensures.1 (λ no_space. lacks_strip _ _ _ (is_dirty_in object) (records_with (old_in object) c.loop-strip.strips.entries) c.loop-strip.strip 84 low
    c.loop-strip.invariant.done.goes c.loop-strip.invariant.done.adds (c.in_err-place_strip.ensures.full no_space))
