use Rattle.word_lock.proofs.Keeps.{closes_first, unheld}
use Rattle.word_lock.proofs.lock.WordLock.close.Goals as goal

pub returns-else-held : goal.returns-else-held
returns-else-held g c =
    closes_first _ _ _ _ g.R.LockRule.same g.R.LockRule.onward _ _ _ _ c.close-closed.ensures.values.2 c.word.ensures (unheld _ _ c.is_held-held.ensures c.if-held.false) c.take-value.ensures.value
