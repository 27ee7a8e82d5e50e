use Rattle.std.proofs.Common.{◌≡◌, ◌∙◌, [], length, sym, refl, rules}
use Rattle.std.specs.Vec.Iter.{into_iter_items}
use Rattle.std.proofs.lemmas.List.{append-nil, nil_from_length}
use Rattle.serving.proofs.Made.{one_more}
use Rattle.serving.proofs.answering.make_calls.Goals as goal

pub loop-request-preserved : goal.loop-request-preserved
loop-request-preserved g c = (
  tt,
  tt,
  search rules,
  search rules,
  one_more c.args.owner c.args.requests.items (into_iter_items c.loop-request.request-iterator) (into_iter_items c.next.new.self) c.in-Some.request c.loop-request.answers.items c.push_reserved.new.self.items
      _ c.args.handle.now c.loop-request.handle c.make_call-outcome.new.handle c.in-Some.ensures.steps.0 c.push_reserved.ensures.items refl c.make_call-outcome.ensures c.loop-request.invariant.4,
)

pub returns-clause-made : goal.returns-clause-made
returns-clause-made g c =
    let done = c.in-None.ensures.steps.0 in
    let whole = c.loop-request.request-iterator.rest.ok.0 in
    let none : length (into_iter_items c.loop-request.request-iterator) ≡ 0 = sym whole ∙ done in
    rw (append-nil c.loop-request.answers.items) at (c.loop-request.invariant.4 [] c.loop-request.handle (rw (nil_from_length (into_iter_items c.loop-request.request-iterator) none) refl))
