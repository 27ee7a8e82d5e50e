use Rattle.word_lock.proofs.lock.with_source.Given as goal

abbrev pub ghost-of : goal.ghost-of
ghost-of g a = record { view = a.x.now.value; kin = 1 }
