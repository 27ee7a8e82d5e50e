use Rattle.std.proofs.Common.{refl}
use Rattle.std.specs.Prelude.{Err, Ok}
use Rattle.serving.proofs.inputs.serve.Goals as goal

pub returns-in-Ok : goal.returns-in-Ok
returns-in-Ok g c =
    let all = c.answer_all-ending.ensures in
    let ending = c.answer_all-ending.result in
    record { served = (ending, all.0, Ok c.in-Ok.field-0, record { served = c.answer_all-ending.new.handle; answers = all.1; syncs = c.in-Ok.ensures.synced }, all.2, all.3, (refl, refl), tt) }

pub returns-in-Err : goal.returns-in-Err
returns-in-Err g c =
    let all = c.answer_all-ending.ensures in
    let ending = c.answer_all-ending.result in
    record { served = (ending, all.0, Err c.in-Err.error, record { served = c.answer_all-ending.new.handle; answers = all.1; syncs = c.in-Err.ensures.synced }, all.2, all.3, tt, refl) }
