use Rattle.std.proofs.Common.{◌∙◌, Ok, Err, IsTrue, refl}
use Rattle.std.proofs.lemmas.Result.{err_from_is_err_and}
use Rattle.sync.specs.Calls.{MakesNextCall}
use Rattle.sync.specs.CallOrder.{call_said}
use Rattle.sync.proofs.KeptPhases.{kept_phases}
use Rattle.sync.proofs.KeptWrites.{keeps_written}
use Rattle.sync.proofs.Targets.{is_sound}
use Rattle.sync.proofs.run.SyncRun.next.Goals as goal

pub returns-in_err-make-clause-called : goal.returns-in_err-make-clause-called
returns-in_err-make-clause-called g c =
    let p = err_from_is_err_and c.from_residual.result c.from_residual.ensures.1 in
    let refused = c.in_err-make.ensures in
    let made : MakesNextCall (IsTrue g.D.SectorDevice.keeps_model) c.args.self.now (Err c.in_err-make.field-0.0) (g.D.SectorDevice.disk c.args.device.now) (g.D.SectorDevice.disk c.make.new.device) =
    record { call = call_said c.call.result; next = c.call.ensures.next; refusal = refused.refusal; made = λ keeps. refused.called keeps } in
    rw (p.1, p.2) made

pub returns-in_err-make-clause-written : goal.returns-in_err-make-clause-written
returns-in_err-make-clause-written g c = λ keeps.
    keeps_written c.args.self.now _ (call_said c.call.result) (g.D.SectorDevice.disk c.args.device.now) (g.D.SectorDevice.disk c.make.new.device) (Err c.in_err-make.field-0.0)
    (is_sound c.args.self.now c.args.self.now.sized) refl refl refl c.requires.left c.call.ensures.next c.in_err-make.ensures.fits
    (g.met.D.SectorDevice.sized keeps c.args.device.now ∙ c.requires.sized) (c.in_err-make.ensures.called keeps)

pub returns-then-self-total-clause-written : goal.returns-then-self-total-clause-written
returns-then-self-total-clause-written g c = λ keeps.
    keeps_written c.args.self.now _ (call_said c.call.result) (g.D.SectorDevice.disk c.args.device.now) (g.D.SectorDevice.disk c.make.new.device) (Ok tt)
    (is_sound c.args.self.now c.args.self.now.sized) refl refl refl c.requires.left c.call.ensures.next c.in_ok-make.ensures.fits
    (g.met.D.SectorDevice.sized keeps c.args.device.now ∙ c.requires.sized) (c.in_ok-make.ensures.called keeps)

pub returns-else-self-total-clause-written : goal.returns-else-self-total-clause-written
returns-else-self-total-clause-written g c = λ keeps.
    keeps_written c.args.self.now _ (call_said c.call.result) (g.D.SectorDevice.disk c.args.device.now) (g.D.SectorDevice.disk c.make.new.device) (Ok tt)
    (is_sound c.args.self.now c.args.self.now.sized) refl refl refl c.requires.left c.call.ensures.next c.in_ok-make.ensures.fits
    (g.met.D.SectorDevice.sized keeps c.args.device.now ∙ c.requires.sized) (c.in_ok-make.ensures.called keeps)

pub returns-in_err-make-clause-phases : goal.returns-in_err-make-clause-phases
returns-in_err-make-clause-phases g c = λ keeps.
    kept_phases c.args.self.now (is_sound c.args.self.now c.args.self.now.sized) (call_said c.call.result) c.call.ensures.next c.in_err-make.ensures.fits
    (g.D.SectorDevice.disk c.args.device.now) (g.D.SectorDevice.disk c.make.new.device) (Err c.in_err-make.field-0.0) (c.in_err-make.ensures.called keeps) _ (record { geometry = refl; blocks = refl; uberblock = refl; slot = refl; stages = refl }) refl

pub returns-then-self-total-clause-phases : goal.returns-then-self-total-clause-phases
returns-then-self-total-clause-phases g c = λ keeps.
    kept_phases c.args.self.now (is_sound c.args.self.now c.args.self.now.sized) (call_said c.call.result) c.call.ensures.next c.in_ok-make.ensures.fits
    (g.D.SectorDevice.disk c.args.device.now) (g.D.SectorDevice.disk c.make.new.device) (Ok tt) (c.in_ok-make.ensures.called keeps) _ (record { geometry = refl; blocks = refl; uberblock = refl; slot = refl; stages = refl }) refl

pub returns-else-self-total-clause-phases : goal.returns-else-self-total-clause-phases
returns-else-self-total-clause-phases g c = λ keeps.
    kept_phases c.args.self.now (is_sound c.args.self.now c.args.self.now.sized) (call_said c.call.result) c.call.ensures.next c.in_ok-make.ensures.fits
    (g.D.SectorDevice.disk c.args.device.now) (g.D.SectorDevice.disk c.make.new.device) (Ok tt) (c.in_ok-make.ensures.called keeps) _ (record { geometry = refl; blocks = refl; uberblock = refl; slot = refl; stages = refl }) refl
