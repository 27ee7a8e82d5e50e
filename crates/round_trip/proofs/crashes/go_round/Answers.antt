use Rattle.std.proofs.Common.{◌≡◌, List, ap, refl, subst}
use Rattle.base.specs.declared.piece.Piece.{Piece}
use Rattle.base.specs.disk.Crashes.{crash_image}
use Rattle.base.specs.disk.Disk.{Disk, MayLeave, certain}
use Rattle.round_trip.proofs.CrashRounds.{crashed_round, given_round, over_planned}
use Rattle.round_trip.proofs.crashes.go_round.Goals as goal

pub returns-in-Crash-clause-went : goal.returns-in-Crash-clause-went
returns-in-Crash-clause-went c = λ past was.
    let r = c.args.round in
    let start : Disk = c.args.device.disk in
    let ended : Disk = c.import_and_run-answer.result.1.disk in
    let over = over_planned r c.import_and_run-answer.result.0 past start c.plan_fault.new.device.disk ended c.plan_fault.ensures.disk was (c.import_and_run-answer.ensures.went refl) in
    let value : c.deref.result.now ≡ c.in-Crash.pieces.items = c.deref.ensures.value in
    let may = subst (λ (ps : List Piece). MayLeave ended.now (crash_image ps ended.now)) value c.crash.ensures.possible in
    let left = subst (λ (ps : List Piece). c.crash.result.disk ≡ certain (crash_image ps ended.now) ended) value (ap (λ d. d.disk) c.crash.ensures.left) in
    crashed_round r c.import_and_run-answer.result.0 past start ended c.crash.result.disk c.in-Crash.pieces c.in-Crash.is may left over

pub returns-in-GivenUp-clause-went : goal.returns-in-GivenUp-clause-went
returns-in-GivenUp-clause-went c = λ past was.
    let r = c.args.round in
    let start : Disk = c.args.device.disk in
    let ended : Disk = c.import_and_run-answer.result.1.disk in
    given_round r c.import_and_run-answer.result.0 past start ended c.in-GivenUp.is
    (over_planned r c.import_and_run-answer.result.0 past start c.plan_fault.new.device.disk ended c.plan_fault.ensures.disk was (c.import_and_run-answer.ensures.went refl))
