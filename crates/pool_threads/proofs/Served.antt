-- What is done for a duty in one turn: steps that were due, one after another.
use Rattle.std.proofs.Common.{◌≡◌, ◌++◌, ◌∷◌, [], List, refl, sym, ap, subst, ◌∙◌}
use Rattle.std.specs.Prelude.{Option, Some, None}
use Rattle.std.proofs.lemmas.List.Elements.{All-nil, All-push}
use Rattle.std.proofs.Math.Logic.{∥∥₁_elim, ∥∥₁_map, ∥∥₁_prop}
use Rattle.base.specs.declared.error.PoolError.{PoolError}
use Rattle.base.specs.declared.step.Step as declared_step
use Rattle.base.specs.declared.step.Reply as declared_reply
use Rattle.base.specs.declared.step.Reply.TheVariants as reply
use Rattle.base.specs.steps.Tables.{AreTablesExplained}
use Rattle.base.specs.steps.Steps.{State}
use Rattle.base.specs.steps.SyncEnds.{IsAnswer}
use Rattle.device_model.specs.declared.device.SectorDevice.{Ghosts}
use Rattle.pool_core.specs.declared.state.PoolState.{PoolState}
use Rattle.pool_core.specs.States.{shown}
use Rattle.pool_tables.specs.declared.duty.Duty.{Duty}
use Rattle.pool_tables.specs.Duties.{due_step}
use Rattle.pool_threads.specs.Serves.{AreDue, HasServed, IsRefusedDuty, IsServedTurn, MakesDue, due_of}
use Rattle.pool_threads.specs.Turns.{HasHadOne}
use Rattle.pool_threads.specs.Views.{Explains, GrowsTo, IsPoolStep, SeenPool, grows_onward, grows_same, viewed_state}
use Rattle.pool_threads.proofs.Answered.{between, refused_between}
use Rattle.pool_threads.proofs.Made.{met_none_on}
use Rattle.pool_threads.proofs.Turned.{grows_by_one}
use Rattle.word_lock.specs.declared.rule.Turn.{Turn}
use Rattle.word_lock.specs.declared.seat.Seat.{Seat}
use Rattle.word_lock.specs.Seats.{HasMetNone, HasTurned, kin, seen, turns}
use Rattle.word_lock.specs.Turns.{turn}

-- a past that explains a pool explains its view
pub explained_by : {Dev : Type 0} {G : Ghosts Dev} (p : PoolState Dev G) (v w : SeenPool) → Explains p v → w ≡ v → ∥ AreTablesExplained (viewed_state w).shown w.past ∥₁
explained_by p v w x same =
    subst (λ (u : SeenPool). ∥ AreTablesExplained (viewed_state u).shown u.past ∥₁) (sym same) (subst (λ (a : State). ∥ AreTablesExplained a.shown a.past ∥₁) (sym x.state) x.explained)

-- what is due of a pool is due by a view that explains it
pub due_seen : {Dev : Type 0} {G : Ghosts Dev} (d : Duty) (p : PoolState Dev G) (v : SeenPool) → Explains p v → due_step d (shown p) ≡ due_of d v
due_seen d p v x = ap (λ (a : State). due_step d a.shown) (sym x.state)

pub due_then : {Dev : Type 0} {G : Ghosts Dev} (d : Duty) (p : PoolState Dev G) (v : SeenPool) (o : Option declared_step.Step) (s : declared_step.Step) → Explains p v → o ≡ due_step d (shown p) → o ≡ Some s → due_of d v ≡ Some s
due_then d p v o s x found is = sym (due_seen d p v x) ∙ sym found ∙ is

module _ (keeps : Type 0) (d : Duty) where
  -- steps that were due lead on
  grows_by_all : (rs : List declared_reply.Reply) (v w : SeenPool) → AreDue keeps d rs v w → GrowsTo keeps v w
  grows_by_all [] v w same = subst (GrowsTo keeps v) (sym same) (grows_same keeps v)
  grows_by_all (r ∷ rs) v w (s, middle, due, one, rest) = grows_onward keeps _ _ _ (grows_by_one keeps _ _ _ _ _ refl one) (grows_by_all rs middle w rest)

  pub grows_by_due : (r : Option declared_reply.Reply) (v w : SeenPool) → MakesDue keeps d r v w → GrowsTo keeps v w
  grows_by_due None v w made = subst (GrowsTo keeps v) (sym made.1) (grows_same keeps v)
  grows_by_due (Some r) v w made = grows_by_all (made.0 ++ r ∷ []) v w made.2

  pub grows_from : (r : Option declared_reply.Reply) (had v left : SeenPool) → had ≡ v → MakesDue keeps d r had left → GrowsTo keeps v left
  grows_from r had v left is made = subst (λ (u : SeenPool). GrowsTo keeps u left) is (grows_by_due r had left made)

  -- one step
  pub one_due : (s : declared_step.Step) (r : declared_reply.Reply) (v w : SeenPool) → due_of d v ≡ Some s → IsPoolStep keeps s r v w → MakesDue keeps d (Some r) v w
  one_due s r v w due one = ([], All-nil IsAnswer, (s, w, due, one, refl))

  -- one step more, after an answer
  push_due : (rs : List declared_reply.Reply) (s : declared_step.Step) (r : declared_reply.Reply) (u v w : SeenPool) → AreDue keeps d rs u v → due_of d v ≡ Some s → IsPoolStep keeps s r v w → AreDue keeps d (rs ++ r ∷ []) u w
  push_due [] s r u v w same due one = (s, w, subst (λ (x : SeenPool). due_of d x ≡ Some s) same due, subst (λ (x : SeenPool). IsPoolStep keeps s r x w) same one, refl)
  push_due (q ∷ qs) s r u v w (t, middle, due_t, one_t, rest) due one = (t, middle, due_t, one_t, push_due qs s r middle v w rest due one)

  pub more_due : (q : declared_reply.Reply) (s : declared_step.Step) (r : declared_reply.Reply) (u v w : SeenPool) → IsAnswer q → MakesDue keeps d (Some q) u v → due_of d v ≡ Some s → IsPoolStep keeps s r v w → MakesDue keeps d (Some r) u w
  more_due q s r u v w answered made due one = (made.0 ++ q ∷ [], All-push IsAnswer made.0 q made.1 answered, push_due (made.0 ++ q ∷ []) s r u v w made.2 due one)

  -- the last step that was made, from a view that goes on from the first
  pub record LastDue (r : declared_reply.Reply) (u w : SeenPool) : Type 0 where
    pub at : SeenPool
    pub step : declared_step.Step
    pub due : due_of d at ≡ Some step
    pub onward : GrowsTo keeps u at
    pub made : IsPoolStep keeps step r at w

  last_due : (rs : List declared_reply.Reply) (r : declared_reply.Reply) (u w : SeenPool) → AreDue keeps d (rs ++ r ∷ []) u w → LastDue r u w
  last_due [] r u w (s, middle, due, one, same) = record { at = u; step = s; due = due; onward = grows_same keeps u; made = subst (λ (x : SeenPool). IsPoolStep keeps s r u x) (sym same) one }
  last_due (q ∷ qs) r u w (s, middle, due, one, rest) =
      let l = last_due qs r middle w rest in
      record { at = l.at; step = l.step; due = l.due; onward = grows_onward keeps _ _ _ (grows_by_one keeps _ _ _ _ _ refl one) l.onward; made = l.made }

  pub last_made : (r : declared_reply.Reply) (u w : SeenPool) → MakesDue keeps d (Some r) u w → LastDue r u w
  last_made r u w made = last_due made.0 r u w made.2

  -- a refusal that ends a turn is that of a step that was due, in some state since any before
  module _ (e : PoolError) (v u w : SeenPool) where
    pub refused_last : (l : LastDue (reply.Refused e) u w) → GrowsTo keeps v l.at → ∥ IsRefusedDuty d e (viewed_state v) (viewed_state w) ∥₁
    refused_last l onward =
        ∥∥₁_elim onward.goes_on ∥∥₁_prop (λ before.
        ∥∥₁_map {B = IsRefusedDuty d e (viewed_state v) (viewed_state w)} (between keeps l.step (reply.Refused e) l.at l.at w (grows_same keeps l.at) l.made) (λ b. record {
          due_at = viewed_state l.at;
          no_earlier = before;
          step = l.step;
          due = l.due;
          refusal = refused_between l.step e (viewed_state l.at) (viewed_state w) b;
        }))

    pub refused_due : GrowsTo keeps v u → MakesDue keeps d (Some (reply.Refused e)) u w → ∥ IsRefusedDuty d e (viewed_state v) (viewed_state w) ∥₁
    refused_due onward made = let l = last_made (reply.Refused e) u w made in refused_last l (grows_onward keeps _ _ _ onward l.onward)

  module _ {T R : Type 0} (r : Option declared_reply.Reply) where
    -- what was done over what the seat had of the pool, whose view it put back
    pub served_by : (holder new : Seat T R SeenPool) (had left : SeenPool) → had ≡ seen holder → MakesDue keeps d r had left → seen new ≡ left → HasTurned holder new left → HasServed keeps d r holder new
    served_by holder new had left is made freed turned = record {
      made = subst (λ (v : SeenPool). MakesDue keeps d r v (seen new)) is (subst (MakesDue keeps d r had) (sym freed) made);
      turn = subst (HasTurned holder new) (sym freed) turned;
    }

    -- from the seat before it has the lock, to the one that has it, to the one after
    pub one_served : (old holder new : Seat T R SeenPool) → turns holder ≡ turns old → GrowsTo keeps (seen old) (seen holder) → HasMetNone old holder → (kin old ≡ 0 → seen holder ≡ seen old) → HasServed keeps d r holder new
        → HasHadOne keeps (IsServedTurn keeps d r) old new
    one_served old holder new same onward met alone served = record {
      took = seen holder;
      onward = onward;
      made = served.made;
      turn = served.turn.0 ∙ ap (λ (ts : List (Turn SeenPool)). ts ++ turn (seen holder) (seen new) ∷ []) same;
      met_none = met_none_on old holder new met served.turn.1;
      alone = alone;
    }
