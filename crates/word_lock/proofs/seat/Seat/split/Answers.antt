use Rattle.std.proofs.Common.{rules, ap}
use Rattle.word_lock.proofs.Keeps.{splits}
use Rattle.word_lock.proofs.seat.Seat.split.Goals as goal

pub split_seat-requires : goal.split_seat-requires
split_seat-requires g c = (search rules, search rules, splits _ g.R.LockRule.same g.R.LockRule.onward _ _ _ _ _ _ _ _ _ (ap (λ m. m.0) c.requires.idle))
