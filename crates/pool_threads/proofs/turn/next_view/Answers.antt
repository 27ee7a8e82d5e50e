use contract.BorrowLft.{⊑_meet, ⊑_static}
use Rattle.pool_threads.proofs.turn.next_view.Goals as goal

pub of-requires : goal.of-requires
of-requires g c κs t =
    let none = ⊑_static κs.1.1.0 in
    let the_call = ⊑_meet _ _ _ t.1.1.0 none in
    let call = ⊑_meet _ _ _ t.0.1.0 (⊑_meet _ _ _ the_call (⊑_meet _ _ _ (⊑_meet _ _ _ the_call none) none)) in
    let the_answer = ⊑_meet _ _ _ t.1.1.1.0 none in
    let answer = ⊑_meet _ _ _ t.0.1.1.0 (⊑_meet _ _ _ the_answer (⊑_meet _ _ _ the_answer none)) in
    let the_device = ⊑_meet _ _ _ t.1.0 none in
    let the_cached = ⊑_meet _ _ _ (⊑_meet _ _ _ the_device the_device) none in
    let state = ⊑_meet _ _ _ t.0.1.1.1.0 (⊑_meet _ _ _ the_device the_cached) in
    let shown = ⊑_meet _ _ _ (⊑_meet _ _ _ t.0.0 none) (⊑_meet _ _ _ call (⊑_meet _ _ _ answer (⊑_meet _ _ _ state none))) in
    (⊑_static κs.1.0, ⊑_meet _ _ _ shown shown)
