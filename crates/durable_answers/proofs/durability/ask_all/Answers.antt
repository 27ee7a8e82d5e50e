use Rattle.std.proofs.Common.{◌≡◌, ◌∙◌, [], length, sym, refl, rules}
use Rattle.std.specs.Vec.Iter.{into_iter_items}
use Rattle.std.proofs.lemmas.List.{append-nil, nil_from_length}
use Rattle.durable_answers.proofs.Questions.{one_question_more}
use Rattle.durable_answers.proofs.durability.ask_all.Goals as goal

pub loop-answer-preserved : goal.loop-answer-preserved
loop-answer-preserved g c = (
  tt,
  tt,
  search rules,
  one_question_more c.args.error c.args.made.items (into_iter_items c.loop-answer.answer-iterator) (into_iter_items c.next.new.self) c.in-Some.answer c.loop-answer.answers.items c.push_reserved.new.self.items
      c.ask-asked.result c.args.handle.now c.loop-answer.handle c.ask-asked.new.handle c.in-Some.ensures.steps.0 c.push_reserved.ensures.items c.ask-asked.ensures c.loop-answer.invariant.3,
)

pub returns : goal.returns
returns g c =
    let done = c.in-None.ensures.steps.0 in
    let whole = c.loop-answer.answer-iterator.rest.ok.0 in
    let none : length (into_iter_items c.loop-answer.answer-iterator) ≡ 0 = sym whole ∙ done in
    rw (append-nil c.loop-answer.answers.items) at (c.loop-answer.invariant.3 [] c.loop-answer.handle (rw (nil_from_length (into_iter_items c.loop-answer.answer-iterator) none) refl))
