use Rattle.std.proofs.Common.{inr, refl}
use Rattle.std.specs.Prelude.{Ok}
use Rattle.std.proofs.lemmas.Result.{IfErr-weaker, IfOk-weaker}
use Rattle.contents.specs.ContentsShown.{contents_of}
use Rattle.round_trip.proofs.CrashRounds.{comes_behind, refused_behind}
use Rattle.round_trip.proofs.crashes.play_rounds.Goals as goal

pub returns-clause-found : goal.returns-clause-found
returns-clause-found c =
    let a = c.args in
    let made = c.in_ok-made.ensures in
    IfOk-weaker c.go_rounds.result _ _
    (λ r finds. comes_behind (Ok (contents_of r.1.mounted.contents, r.1.device.disk)) a.name.now a.guid a.moment a.rounds.items r.0.items a.device.disk c.in_ok-made.made.disk
    (made.goes_on refl) (made.written refl) (made.own refl) finds) c.go_rounds.ensures.found

pub returns-clause-refusal : goal.returns-clause-refusal
returns-clause-refusal c = IfErr-weaker c.go_rounds.result _ _ (λ e refused. inr (c.in_ok-made.ensures.made, refused)) c.go_rounds.ensures.refusal

pub returns-clause-reason : goal.returns-clause-reason
returns-clause-reason c =
    let a = c.args in
    let made = c.in_ok-made.ensures in
    IfErr-weaker c.go_rounds.result _ _
    (λ e refused. inr (refused_behind a.name.now a.guid a.moment a.rounds.items a.device.disk c.in_ok-made.made.disk e (made.goes_on refl) (made.written refl) (made.own refl) refused))
    c.go_rounds.ensures.reason
