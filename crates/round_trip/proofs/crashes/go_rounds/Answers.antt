use Rattle.std.proofs.Common.{◌∙◌, inr, sym, refl, rules}
use Rattle.std.specs.Prelude.{Err, Ok}
use Rattle.std.specs.Vec.Iter.{into_iter_items}
use Rattle.std.proofs.lemmas.Result.{err_from_is_err_and}
use Rattle.contents.specs.ContentsShown.{contents_of}
use Rattle.round_trip.proofs.CrashRounds.{all_over, last_import, last_refusal, one_more}
use Rattle.round_trip.proofs.crashes.go_rounds.Goals as goal

pub loop-round-preserved : goal.loop-round-preserved
loop-round-preserved c = (
  tt,
  tt,
  search rules,
  one_more (into_iter_items c.loop-round.round-iterator) c.in-Some.round (into_iter_items c.next.new.self) c.loop-round.answers.items c.push_reserved.new.self.items
      c.go_round-answer.result.0 c.args.rounds.items c.args.device.disk c.loop-round.device.disk c.go_round-answer.result.1.disk c.in-Some.ensures.steps.0 c.push_reserved.ensures.items
      c.go_round-answer.ensures.went c.loop-round.invariant.3,
)

pub returns-clause-found : goal.returns-clause-found
returns-clause-found c =
    let i = c.in_ok-imported.imported in
    all_over c.args.rounds.items (into_iter_items c.loop-round.round-iterator) c.loop-round.answers.items c.args.device.disk c.loop-round.device.disk (Ok (contents_of i.mounted.contents, i.device.disk))
    (sym c.loop-round.round-iterator.rest.ok.0 ∙ c.in-None.ensures.steps.0) c.loop-round.invariant.3
    (λ past was. last_import c.args.dirty_max past c.loop-round.device.disk i.device.disk i.mounted was (c.in_ok-imported.ensures.own refl) (c.in_ok-imported.ensures.starts refl)
    c.args.moment (c.in_ok-imported.ensures.opened refl))

pub returns-clause-opened : goal.returns-clause-opened
returns-clause-opened c = (c.in_ok-imported.ensures.opened refl).after

pub returns-in_err-imported-clause-reason : goal.returns-in_err-imported-clause-reason
returns-in_err-imported-clause-reason c =
    let e = c.in_err-imported.field-0.0 in
    let refused = c.in_err-imported.ensures in
    let p = err_from_is_err_and c.from_residual-in_err-imported.result c.from_residual-in_err-imported.ensures.1 in
    rw (p.1, p.2) (inr (
      c.loop-round.answers.items,
      all_over c.args.rounds.items (into_iter_items c.loop-round.round-iterator) c.loop-round.answers.items c.args.device.disk c.loop-round.device.disk (Err e)
          (sym c.loop-round.round-iterator.rest.ok.0 ∙ c.in-None.ensures.steps.0) c.loop-round.invariant.3
          (λ past was. last_refusal past c.loop-round.device.disk e was (refused.reason refl).1 (refused.reason refl).0),
    ))
