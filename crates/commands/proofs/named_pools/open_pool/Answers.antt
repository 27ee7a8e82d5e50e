use Rattle.std.proofs.Common.{inl}
use Rattle.commands.proofs.named_pools.open_pool.Goals as goal

pub returns-in-Err-clause-still_held : goal.returns-in-Err-clause-still_held
returns-in-Err-clause-still_held g c = λ keeps. inl (c.in-Err.ensures.still_left keeps)
