use Rattle.std.proofs.Common.{rules}
use Rattle.word_lock.proofs.Keeps.{sits}
use Rattle.word_lock.proofs.source.SeatSource.seat.Goals as goal

pub load_new_seat-inside-requires : goal.load_new_seat-inside-requires
load_new_seat-inside-requires g c = (search rules, sits _ g.R.LockRule.same g.R.LockRule.onward _ _ _ _ c.requires.own.1)
