use contract.BorrowLft.{⊑_meet, ⊑_static}
use Rattle.word_lock.proofs.source.SeatSource.beside.Goals as goal

pub of-requires : goal.of-requires
of-requires g c = λ κs t.
    let a = t.0 in let b = t.1.0 in let d = t.1.1.0 in
    let e = t.1.1.1.0 in let f = t.1.1.1.1.0 in let h = t.1.1.1.1.1 in
    (search (⊑_meet, ⊑_static, a, b, d) depth 200 fits 4000000, search (⊑_meet, ⊑_static, e, f, h) depth 200 fits 4000000)
