use Rattle.std.proofs.Common.{◌≡◌, ◌∙◌, [], length, sym, refl, rules}
use Rattle.std.specs.Vec.Iter.{into_iter_items}
use Rattle.std.proofs.lemmas.List.{append-nil, nil_from_length}
use Rattle.pool_core.proofs.MadeRuns.{count_on, holds_on, one_more, runs_on, safe_on}
use Rattle.pool_core.proofs.runs.run.Goals as goal

pub loop-step-preserved : goal.loop-step-preserved
loop-step-preserved g c =
    let made = c.step-reply.ensures in (
      tt,
      tt,
      search rules,
      search rules,
      one_more (into_iter_items c.loop-step.step-iterator) c.in-Some.step (into_iter_items c.next.new.self) c.loop-step.replies.items c.push_reserved.new.self.items
          c.step-reply.result c.args.steps.items c.args.state.now c.loop-step.state c.step-reply.new.self c.in-Some.ensures.steps.0 c.push_reserved.ensures.items
          (record { replied = made.replied; turns = made.turns; leads = made.leads; safe = made.safe; calls = made.calls; count = made.count }) c.loop-step.invariant.4,
    )

pub returns-clause-ran : goal.returns-clause-ran
returns-clause-ran g c =
    let done = c.in-None.ensures.steps.0 in
    let whole = c.loop-step.step-iterator.rest.ok.0 in
    let none : length (into_iter_items c.loop-step.step-iterator) ≡ 0 = sym whole ∙ done in
    rw (append-nil c.loop-step.replies.items) at (c.loop-step.invariant.4 [] c.loop-step.state (rw (nil_from_length (into_iter_items c.loop-step.step-iterator) none) refl))

pub returns-clause-explained : goal.returns-clause-explained
returns-clause-explained g c = runs_on c.args.steps.items c.loop-step.replies.items c.args.state.now c.loop-step.state (returns-clause-ran g c)

pub returns-clause-held : goal.returns-clause-held
returns-clause-held g c = λ keeps. holds_on keeps c.args.steps.items c.loop-step.replies.items c.args.state.now c.loop-step.state (returns-clause-ran g c)

pub returns-clause-safe : goal.returns-clause-safe
returns-clause-safe g c = λ keeps. safe_on keeps c.args.steps.items c.loop-step.replies.items c.args.state.now c.loop-step.state (returns-clause-ran g c)

pub returns-clause-count : goal.returns-clause-count
returns-clause-count g c = count_on c.args.steps.items c.loop-step.replies.items c.args.state.now c.loop-step.state (returns-clause-ran g c)
