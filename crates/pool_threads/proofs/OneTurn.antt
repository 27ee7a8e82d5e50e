-- What a seat does in the turn in which it has the lock is one turn of its handle.
use Rattle.std.proofs.Common.{◌≡◌, ◌++◌, ◌∷◌, [], List, ap, sym, subst, ◌∙◌}
use Rattle.pool_threads.specs.Turns.{HasDone, HasHadOne}
use Rattle.pool_threads.specs.Views.{GrowsTo, SeenPool}
use Rattle.pool_threads.proofs.Made.{met_none_on}
use Rattle.word_lock.specs.declared.rule.Turn.{Turn}
use Rattle.word_lock.specs.declared.seat.Seat.{Seat}
use Rattle.word_lock.specs.Seats.{HasMetNone, HasTurned, kin, seen, turns}
use Rattle.word_lock.specs.Turns.{turn}

-- what leads on from the view that a seat took leads on from what it had seen
pub grown_from : (keeps : Type 0) (had v left : SeenPool) → had ≡ v → GrowsTo keeps had left → GrowsTo keeps v left
grown_from keeps had v left is grows = subst (λ (u : SeenPool). GrowsTo keeps u left) is grows

module _ {T R : Type 0} (P : SeenPool → SeenPool → Type 0) where
  -- what was done over what the seat had of the pool, whose view it put back
  pub done_by : (holder new : Seat T R SeenPool) (had left : SeenPool) → had ≡ seen holder → P had left → seen new ≡ left → HasTurned holder new left → HasDone P holder new
  done_by holder new had left is made freed turned = record {
    made = subst (λ (v : SeenPool). P v (seen new)) is (subst (P had) (sym freed) made);
    turn = subst (HasTurned holder new) (sym freed) turned;
  }

  -- from the seat before it has the lock, to the one that has it, to the one after
  pub one_done : (keeps : Type 0) (old holder new : Seat T R SeenPool) → turns holder ≡ turns old → GrowsTo keeps (seen old) (seen holder) → HasMetNone old holder → (kin old ≡ 0 → seen holder ≡ seen old) → HasDone P holder new
      → HasHadOne keeps (λ (t : Turn SeenPool). P t.took t.left) old new
  one_done keeps old holder new same onward met alone did = record {
    took = seen holder;
    onward = onward;
    made = did.made;
    turn = did.turn.0 ∙ ap (λ (ts : List (Turn SeenPool)). ts ++ turn (seen holder) (seen new) ∷ []) same;
    met_none = met_none_on old holder new met did.turn.1;
    alone = alone;
  }
