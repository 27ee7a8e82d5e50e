use Rattle.std.proofs.Common.{◌≡◌, ◌∙◌, ap, refl, sym, subst}
use Rattle.std.proofs.Math.Logic.{∥∥₁_map}
use Rattle.base.specs.disk.Disk.{Disk, bytes_of, disk_size}
use Rattle.base.specs.kept.CrashRule.{KeepsOwn}
use Rattle.base.proofs.crash.LeftDisks.{IsStillLeft, import_left}
use Rattle.import_replay.specs.ImportSyncs.{uberblock_of_import}
use Rattle.import_replay.specs.RunStarts.{StartsRun}
use Rattle.pool_core.specs.KeptSafe.{disk_of}
use Rattle.pool_core.specs.States.{refused_calls, told}
use Rattle.base.specs.kept.LeftDisks.{IsLeft}
use Rattle.round_trip.specs.Crashes.{IsRoundOver, counted_in}
use Rattle.round_trip.specs.Rounds.{IsOpened}
use Rattle.pool_core.proofs.crash.LeftDisks.{found, run_start, safe_found}
use Rattle.round_trip.proofs.CrashRounds.{over, refused_over, run_counted, run_refused}
use Rattle.round_trip.proofs.crashes.import_and_run.Goals as goal

pub returns-in-Ok-clause-went : goal.returns-in-Ok-clause-went
returns-in-Ok-clause-went g c = λ keeps past was.
    let disk = g.D.SectorDevice.disk in
    let old : Disk = disk c.args.device in
    let m = c.in-Ok.imported.mounted in
    let state = c.new-state.result in
    let end = c.run-answer.new.state in
    let ss = c.args.steps.items in
    let kept : KeepsOwn old (disk_of state) = subst (λ d. KeepsOwn old (disk d)) (sym c.new-state.ensures.device) (c.in-Ok.ensures.own keeps) in
    let starts : StartsRun old c.args.dirty_max (disk_of state) m = subst (λ d. StartsRun old c.args.dirty_max (disk d) m) (sym c.new-state.ensures.device) (c.in-Ok.ensures.starts keeps) in
    let synced = (c.in-Ok.ensures.written keeps).synced in
    let here : IsOpened (bytes_of old.now) (bytes_of (disk c.in-Ok.imported.device).now) c.args.moment = record {
      before = synced.u;
      was_active = synced.active;
      after = record { u = uberblock_of_import c.args.moment m; active = (c.in-Ok.ensures.written keeps).active; moment_is = refl };
      guid = synced.guid;
      group = synced.group;
    } in
    let opened : IsOpened (bytes_of old.now) (told state).now c.args.moment =
    subst (λ d. IsOpened (bytes_of old.now) (bytes_of (disk d).now) c.args.moment) (sym c.new-state.ensures.device) here in
    let limit = (c.in-Ok.ensures.mounted.explained 0).exact.charges.limit in
    let sized : disk_size (disk_of state) ≡ m.geometry = ap (λ d. disk_size (disk d)) c.new-state.ensures.device ∙ g.met.D.SectorDevice.sized keeps c.in-Ok.imported.device ∙ c.in-Ok.imported.sized in
    ∥∥₁_map c.new-state.ensures.held (λ held.
    subst (λ d. (later : _) × IsRoundOver c.args.dirty_max c.args.moment ss c.run-answer.result past later old (disk d) × IsLeft later (disk d)) (sym c.into_device.ensures)
    let begun : IsStillLeft past old (disk_of state) = import_left past old (disk_of state) was kept in
    let safe = safe_found keeps c.args.dirty_max past old m state was kept starts c.new-state.ensures.shown limit sized (held keeps) c.new-state.ensures.safe in
    let start = run_start keeps c.args.dirty_max past old m state was kept starts c.new-state.ensures.shown limit sized (held keeps) c.new-state.ensures.safe in
    let f = found keeps c.args.dirty_max past old m state was kept starts c.new-state.ensures.shown limit sized (held keeps) c.new-state.ensures.safe in
    (over c.args.dirty_max past old m state f begun safe c.new-state.ensures.shown start.contents_are c.args.moment opened ss end c.run-answer.result
    (c.run-answer.ensures.safe keeps) c.run-answer.ensures.refused c.run-answer.ensures.kept))

pub returns-in-Ok-clause-count : goal.returns-in-Ok-clause-count
returns-in-Ok-clause-count g c =
    let refused = g.D.SectorDevice.refused in
    ap refused c.into_device.ensures ∙ run_counted refused_calls c.run-answer.result c.new-state.result c.run-answer.new.state c.run-answer.ensures.count c.run-answer.ensures.refused c.run-answer.ensures.kept
    ∙ ap (λ calls. counted_in c.run-answer.result calls) (ap refused c.new-state.ensures.device ∙ c.in-Ok.ensures.count)

pub returns-in-Ok-clause-refusal : goal.returns-in-Ok-clause-refusal
returns-in-Ok-clause-refusal g c = run_refused (g.D.SectorDevice.size c.args.device) c.args.dirty_max c.run-answer.result c.in-Ok.ensures.mounted.made c.run-answer.ensures.refused

pub returns-in-Err-clause-went : goal.returns-in-Err-clause-went
returns-in-Err-clause-went g c = λ keeps past was.
    refused_over c.args.dirty_max c.args.moment c.args.steps.items c.in-Err.error past (g.D.SectorDevice.disk c.args.device) (g.D.SectorDevice.disk c.in-Err.device) was (c.in-Err.ensures.own keeps) (c.in-Err.ensures.refused.found keeps)
    (c.in-Err.ensures.refused.reason keeps)
