use Rattle.std.proofs.Common.{refl, sym, ◌∙◌}
use Rattle.pool_threads.proofs.handle.Handle.split.Goals as goal

pub returns-clause-this : goal.returns-clause-this
returns-clause-this g c =
    let split = c.split-seat.ensures.split in
    record { same_pool = (split.0.0, refl); seen = split.2; turns = split.3; taken = split.4; number = split.5 }

pub returns-clause-other : goal.returns-clause-other
returns-clause-other g c =
    let new = c.split-seat.ensures.other in
    record { same_pool = (new.0 ∙ sym c.args.self.now.own, refl); seen = c.split-seat.ensures.seen; no_turn = new.2; none_taken = new.3; number = new.4 }
