use Rattle.std.proofs.Common.{inl}
use Rattle.serving.proofs.ServedPools.{refusal_is}
use Rattle.serving.proofs.serving.open_pool.Goals as goal

pub returns-in-Ok-clause-opened : goal.returns-in-Ok-clause-opened
returns-in-Ok-clause-opened g c = record { opens = c.in-Ok.ensures.opened; moment = c.in-Ok.ensures.moment; shown = c.in-Ok.ensures.imported }

pub returns-in-Err-clause-refused : goal.returns-in-Err-clause-refused
returns-in-Err-clause-refused g c =
    let why = c.for_number-failure.result in
    (c.in-Err.refusal, c.in-Err.ensures.refused, refusal_is c.in-Err.refusal why (c.for_number-failure.ensures.cause c.in-Err.refusal c.of_pool.ensures.cause))

pub returns-in-Err-clause-still_held : goal.returns-in-Err-clause-still_held
returns-in-Err-clause-still_held g c = λ keeps. inl (c.in-Err.ensures.still_left keeps)
