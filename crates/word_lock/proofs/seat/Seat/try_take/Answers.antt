use Rattle.std.proofs.Common.{rules, ap, Some}
use Rattle.word_lock.proofs.Keeps.{tries, unheld, only_slot}
use Rattle.word_lock.proofs.seat.Seat.try_take.Goals as goal

pub fetch_or-found-requires : goal.fetch_or-found-requires
fetch_or-found-requires g c = (search rules, search rules, tries _ g.R.LockRule.same g.R.LockRule.onward _ _ _ _ _ _ _ _ _ _ c.requires.idle)

pub exchange-requires : goal.exchange-requires
exchange-requires g c =
    let t = c.fetch_or-found.ensures.2.1 (unheld _ _ c.is_held.ensures c.if-is_held.false) in
    (search rules, (Some t.0, only_slot _ _ _ (ap (λ m. m.1) t.1)))
