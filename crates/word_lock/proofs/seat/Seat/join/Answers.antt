use Rattle.std.proofs.Common.{rules, ap, ◌∙◌}
use Rattle.word_lock.proofs.Keeps.{joins, settles, as_idle}
use Rattle.word_lock.proofs.seat.Seat.join.Goals as goal

pub join_seat-requires : goal.join_seat-requires
join_seat-requires g c = (search rules, search rules, search rules, search rules, joins _ g.R.LockRule.same g.R.LockRule.onward _ _ _ _ _ _ _ _ _ _ _ _ _ _ _ _ (ap (λ m. m.0) c.requires.idle.0) (ap (λ m. m.0) c.requires.idle.1))

pub load-requires : goal.load-requires
load-requires g c = (search rules, search rules, settles _ g.R.LockRule.same g.R.LockRule.onward _ _ _ _ _ _ _ _ _ _ _ (ap (λ m. m.0) c.join_seat.ensures.2))

pub returns-clause-both : goal.returns-clause-both
returns-clause-both g c =
    let met = c.join_seat.ensures.2 in
    let told = c.load.ensures.2 in
    let seen = told.1 _ _ _ _ _ (ap (λ m. m.0) met) in
    (as_idle _ _ _ _ _ _ told.0 (ap (λ m. m.1) met ∙ ap (λ m. m.1) c.requires.idle.0), seen.0, seen.1)
