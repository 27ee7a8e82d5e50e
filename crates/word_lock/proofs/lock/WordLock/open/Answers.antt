use Rattle.word_lock.proofs.Keeps.{opens}
use Rattle.word_lock.proofs.lock.WordLock.open.Goals as goal

pub new-requires : goal.new-requires
new-requires g c = rw c.in-Ok-slot_of.ensures.ok (opens _ g.R.LockRule.same g.R.LockRule.onward _ _ _ _ c.requires)
