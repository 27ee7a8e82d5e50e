-- A step between a taken lock and its release is one turn of the seat.
use Rattle.std.proofs.Common.{◌≡◌, ◌++◌, ◌∷◌, [], List, ap, subst, sym, ◌∙◌}
use Rattle.base.specs.declared.step.Step as declared_step
use Rattle.base.specs.declared.step.Reply as declared_reply
use Rattle.word_lock.specs.declared.rule.Turn.{Turn}
use Rattle.word_lock.specs.declared.seat.Seat.{Seat}
use Rattle.word_lock.specs.Seats.{HasMetNone, HasTurned, kin, seen, turns}
use Rattle.word_lock.specs.Turns.{turn}
use Rattle.pool_threads.specs.Turns.{HasMade, HasStepped}
use Rattle.pool_threads.specs.Views.{GrowsTo, IsPoolStep, SeenPool, grows_onward}
use Rattle.pool_threads.proofs.Turned.{grows_by_one}

-- a step over what the seat had of the pool, whose view it put back
pub stepped_by : {T R : Type 0} (keeps : Type 0) (s : declared_step.Step) (r : declared_reply.Reply) (holder new : Seat T R SeenPool) (had left : SeenPool)
    → had ≡ seen holder → IsPoolStep keeps s r had left → seen new ≡ left → HasTurned holder new left → HasStepped keeps s r holder new
stepped_by keeps s r holder new had left is made freed turned = record {
  made = subst (λ (v : SeenPool). IsPoolStep keeps s r v (seen new)) is (subst (IsPoolStep keeps s r had) (sym freed) made);
  turn = subst (HasTurned holder new) (sym freed) turned;
}

-- a seat that met none and then met none has met none
pub met_none_on : {T R : Type 0} (old now new : Seat T R SeenPool) → HasMetNone old now → HasMetNone now new → HasMetNone old new
met_none_on old now new first later = (later.0 ∙ first.0, later.1 ∙ first.1)

-- from the seat before it has the lock, to the one that has it, to the one after
module _ {T R : Type 0} (keeps : Type 0) (s : declared_step.Step) (r : declared_reply.Reply) (old holder new : Seat T R SeenPool) where
  pub made_by : turns holder ≡ turns old → GrowsTo keeps (seen old) (seen holder) → HasMetNone old holder → (kin old ≡ 0 → seen holder ≡ seen old) → HasStepped keeps s r holder new → HasMade keeps s r old new
  made_by same onward met alone step = record {
    took = seen holder;
    onward = onward;
    made = step.made;
    turn = step.turn.0 ∙ ap (λ (ts : List (Turn SeenPool)). ts ++ turn (seen holder) (seen new) ∷ []) same;
    met_none = met_none_on old holder new met step.turn.1;
    alone = alone;
  }

-- what a seat has seen after a turn goes on from what it had seen
pub grows_by_made : {T R : Type 0} {keeps : Type 0} {s : declared_step.Step} {r : declared_reply.Reply} {old new : Seat T R SeenPool} → HasMade keeps s r old new → GrowsTo keeps (seen old) (seen new)
grows_by_made {keeps} {old} {new} m = grows_onward keeps _ _ _ m.onward (grows_by_one _ _ _ _ _ _ (λ i. m.took) m.made)

-- so it is of a seat that is the same one
pub made_there : {T R : Type 0} (keeps : Type 0) (s : declared_step.Step) (r : declared_reply.Reply) (old : Seat T R SeenPool) {new there : Seat T R SeenPool} → new ≡ there → HasMade keeps s r old new → HasMade keeps s r old there
made_there keeps s r old is m = subst (HasMade keeps s r old) is m

-- what the only seat did in two calls, one after the other
pub one_after_the_other : {T R : Type 0} {keeps : Type 0} {s t : declared_step.Step} {r u : declared_reply.Reply} (old middle new : Seat T R SeenPool) → kin old ≡ 0 → HasMade keeps s r old middle → HasMade keeps t u middle new
    → (between : SeenPool) × (turns new ≡ (turns old ++ turn (seen old) between ∷ []) ++ turn between (seen new) ∷ [])
one_after_the_other old middle new only first later = (
  seen middle,
  later.turn ∙ ap (λ (v : SeenPool). turns middle ++ turn v (seen new) ∷ []) (later.alone (first.met_none.0 ∙ only))
      ∙ ap (λ (ts : List (Turn SeenPool)). ts ++ turn (seen middle) (seen new) ∷ []) (first.turn ∙ ap (λ (v : SeenPool). turns old ++ turn v (seen middle) ∷ []) (first.alone only)),
)
