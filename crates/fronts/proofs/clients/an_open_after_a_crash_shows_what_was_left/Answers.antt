use Rattle.std.proofs.Common.{ap, refl, true}
use Rattle.std.specs.Prelude.{IsTrue}
use Rattle.base.specs.disk.Crashes.{crash_image}
use Rattle.device_model.specs.MemState.{MemState}
use Rattle.pool_threads.specs.Handles.{opening_view, shared_of}
use Rattle.fronts.proofs.TwoTransactions.{opened_left}
use Rattle.fronts.proofs.clients.an_open_after_a_crash_shows_what_was_left.Goals as goal

pub returns-in-Ok : goal.returns-in-Ok
returns-in-Ok c = λ past was fair.
    opened_left (IsTrue true) past c.args.ended.disk c.crash.result.disk (crash_image c.args.pieces.now c.args.ended.disk.now) _ (opening_view (shared_of c.in-Ok.pool)) refl
    (ap (λ (s : MemState). s.disk) c.crash.ensures.left) c.crash.ensures.possible c.in-Ok.ensures.opened was fair
