use Rattle.word_lock.proofs.source.SeatSource.beside.Given as goal

abbrev pub ghost-of : goal.ghost-of
ghost-of g a = a.x.now
