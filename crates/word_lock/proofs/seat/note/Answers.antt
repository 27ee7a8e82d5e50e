use Rattle.std.proofs.Common.{rules, ap}
use Rattle.word_lock.proofs.Keeps.{notes}
use Rattle.word_lock.proofs.seat.note.Goals as goal

pub fetch_or-requires : goal.fetch_or-requires
fetch_or-requires g c = (search rules, search rules, notes _ g.R.LockRule.same g.R.LockRule.onward _ _ _ _ _ _ _ _ _ _ _ _ _ (ap (λ m. m.0) c.requires.held) c.requires.named c.requires.grows)
