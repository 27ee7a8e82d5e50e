use Rattle.std.proofs.Common.{◌≡◌, ◌≤◌, ◌++◌, arith, inl, inr, refl, subst, sym}
use Rattle.std.specs.Prelude.{OnOk}
use Rattle.frames.specs.Answers.{bytes_of_answers, bytes_of_refused, size_of_answers}
use Rattle.frames.specs.Limits.{max_frame}
use Rattle.frames.specs.Requests.{room_of_answers}
use Rattle.frames.specs.declared.error.FrameError.TheVariants.{NoMemory}
use Rattle.serving.proofs.Durable.{durable_at_end}
use Rattle.serving.proofs.Room.{answers_fit, never_err}
use Rattle.serving.proofs.answering.answer_frame.Goals as goal

pub returns-in_default-clause-answered : goal.returns-in_default-clause-answered
returns-in_default-clause-answered g c =
    (bytes_of_refused NoMemory, inl (record { error = NoMemory; refused = inl refl; unchanged = refl; answer_is = refl }), c.refuse-in_default.ensures.bytes)

pub returns-in_default-with_capacity-clause-answered : goal.returns-in_default-with_capacity-clause-answered
returns-in_default-with_capacity-clause-answered g c =
    (bytes_of_refused NoMemory, inl (record { error = NoMemory; refused = inl refl; unchanged = refl; answer_is = refl }), c.refuse-in_default-with_capacity.ensures.bytes)

pub returns-in_default-take_room-clause-answered : goal.returns-in_default-take_room-clause-answered
returns-in_default-take_room-clause-answered g c = (
  bytes_of_refused NoMemory,
  inl (record { error = NoMemory; refused = inl refl; unchanged = refl; answer_is = refl }),
  subst (λ l. OnOk c.refuse-in_default-take_room.result (c.refuse-in_default-take_room.new.out.items ≡ l ++ bytes_of_refused NoMemory)) c.take_room.ensures.unchanged c.refuse-in_default-take_room.ensures.bytes,
)

pub returns-clause-answered : goal.returns-clause-answered
returns-clause-answered g c =
    let requests = c.in-Ok.requests.items in
    let made = c.make_calls-made in
    let all = c.make_durable-answers in (
      bytes_of_answers all.result.items,
      inr (record {
        requests = requests;
        answers = all.result.items;
        spelled = c.in-Ok.ensures.spelled;
        makes = record {
          made = made.result.items;
          middle = made.new.handle;
          makes = made.ensures.made;
          flushes = all.ensures;
          durable = durable_at_end c.args.owner requests made.result.items all.result.items c.args.handle.now made.new.handle all.new.handle made.ensures.made all.ensures;
        };
        answer_is = refl;
      }),
      subst (λ l. OnOk c.encode_answers.result (c.encode_answers.new.out.items ≡ l ++ bytes_of_answers all.result.items)) c.take_room.ensures.unchanged
          (subst (λ answers. OnOk c.encode_answers.result (c.encode_answers.new.out.items ≡ c.take_room.new.out.items ++ bytes_of_answers answers)) c.as_slice-2.ensures.value c.encode_answers.ensures.bytes),
    )

pub returns-clause-none_made : goal.returns-clause-none_made
returns-clause-none_made g c = λ keeps.
    let made = c.make_calls-made in
    let all = c.make_durable-answers in
    let fit = answers_fit keeps c.args.owner c.in-Ok.requests.items made.result.items all.result.items c.args.handle.now made.new.handle all.new.handle made.ensures.made all.ensures in
    let fits : size_of_answers c.as_slice-2.result.now ≤ room_of_answers c.as_slice.result.now =
    subst (λ answers. size_of_answers answers ≤ room_of_answers c.as_slice.result.now) (sym c.as_slice-2.ensures.value)
    (subst (λ requests. size_of_answers all.result.items ≤ room_of_answers requests) (sym c.as_slice.ensures.value) fit) in
    let most : room_of_answers c.as_slice.result.now ≤ max_frame = subst (λ requests. room_of_answers requests ≤ max_frame) (sym c.as_slice.ensures.value) c.in-Ok.ensures.spelled.allowed.answers in
    let taken = c.in-Ok-take_room.ensures.room in
    never_err _ c.encode_answers.result (c.encode_answers.ensures.room (omega (arith, fits, taken)) (omega (arith, fits, most)))
