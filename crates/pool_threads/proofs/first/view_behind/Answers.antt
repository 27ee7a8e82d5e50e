use contract.BorrowLft.{⊑_meet, ⊑_static}
use Rattle.pool_threads.proofs.first.view_behind.Goals as goal

pub of-requires : goal.of-requires
of-requires g c κs t =
    let a = t.0.0 in let b = t.0.1.0 in let x = t.1.0 in let y = t.1.1 in
    (⊑_static κs.1.0, search (⊑_meet, ⊑_static, a, b, x, y) depth 60 fits 1000000)
