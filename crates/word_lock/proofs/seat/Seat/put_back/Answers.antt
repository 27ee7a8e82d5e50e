use Rattle.std.proofs.Common.{rules, arith}
use Rattle.word_lock.proofs.Keeps.{frees, filled}
use Rattle.word_lock.proofs.seat.Seat.put_back.Goals as goal

pub swap-last-requires : goal.swap-last-requires
swap-last-requires g c =
    let back = filled _ _ _ _ _ _ _ c.requires.held c.note-found.ensures.noted c.exchange-empty.ensures.3 in
    (search rules, search rules, frees _ g.R.LockRule.same g.R.LockRule.onward _ _ _ _ _ _ _ _ _ _ _ _ c.args.lock.now.single.1 back (omega (arith, c.freed_word.ensures.free)) c.requires.explains)
