use Rattle.intent_log.proofs.begun.tell_record.Given as goal

abbrev pub ghost-of : goal.ghost-of
ghost-of a = a.x.now
