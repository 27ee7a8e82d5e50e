-- What a handle does for a duty: in one turn the steps that are due then, or none.
use Rattle.std.specs.Prelude.{◌≡◌, ◌++◌, All, List, [], ◌∷◌, Option, Some, None}
use Rattle.base.specs.declared.error.PoolError.{PoolError}
use Rattle.base.specs.declared.step.Step as declared_step
use Rattle.base.specs.declared.step.Reply as declared_reply
use Rattle.base.specs.declared.step.Reply.TheVariants as reply
use Rattle.base.specs.steps.Tables.{GoesOn}
use Rattle.base.specs.steps.Steps.{State}
use Rattle.base.specs.steps.SyncEnds.{IsAnswer}
use Rattle.pool_tables.specs.declared.duty.Duty.{Duty}
use Rattle.pool_tables.specs.Duties.{due_step}
use Rattle.pool_threads.specs.Answers.{IsRefusal}
use Rattle.pool_threads.specs.Views.{IsPoolStep, SeenPool, viewed_state}
use Rattle.word_lock.specs.declared.rule.Turn.{Turn}
use Rattle.word_lock.specs.declared.seat.Seat.{Seat}
use Rattle.word_lock.specs.Seats.{HasTurned, seen}

-- the step that is due by what a view shows
abbrev pub due_of : Duty → SeenPool → Option declared_step.Step
due_of d v = due_step d (viewed_state v).shown

-- steps were made one after another with these replies, and each was due as it was made
abbrev pub AreDue : Type 0 → Duty → List declared_reply.Reply → SeenPool → SeenPool → Type 0
AreDue keeps d [] v w = w ≡ v
AreDue keeps d (r ∷ rs) v w = (s : declared_step.Step) × (middle : SeenPool) × (due_of d v ≡ Some s) × IsPoolStep keeps s r v middle × AreDue keeps d rs middle w

-- Steps that were due were made, the last with this reply, and none before it was refused; or none was due, and nothing
-- has changed.
abbrev pub MakesDue : Type 0 → Duty → Option declared_reply.Reply → SeenPool → SeenPool → Type 0
MakesDue keeps d None v w = (due_of d v ≡ None) × (w ≡ v)
MakesDue keeps d (Some r) v w = (rs : List declared_reply.Reply) × All IsAnswer rs × AreDue keeps d (rs ++ r ∷ []) v w

-- in this turn that was done for a duty, the last step with this reply
abbrev pub IsServedTurn : Type 0 → Duty → Option declared_reply.Reply → Turn SeenPool → Type 0
IsServedTurn keeps d r t = MakesDue keeps d r t.took t.left

-- after a turn with this last reply a handle goes on: nothing was refused in it, except perhaps so
abbrev pub GoesOnAfter : Option PoolError → Option declared_reply.Reply → Type 0
GoesOnAfter passed (Some (reply.Refused e)) = passed ≡ Some e
GoesOnAfter passed _ = Unit {0}

-- in this turn that was done for a duty, and nothing was refused, except perhaps so
abbrev pub IsDutyTurn : Type 0 → Duty → Option PoolError → Turn SeenPool → Type 0
IsDutyTurn keeps d passed t = (r : Option declared_reply.Reply) × GoesOnAfter passed r × IsServedTurn keeps d r t

-- in this turn the last step that was due was refused so, and none before it was
abbrev pub IsRefusedTurn : Type 0 → Duty → PoolError → Turn SeenPool → Type 0
IsRefusedTurn keeps d e t = IsServedTurn keeps d (Some (reply.Refused e)) t

-- A refusal is that of a step that was due in some state between the two: it is the one that the rules give that step
-- from then on.
pub record IsRefusedDuty (d : Duty) (e : PoolError) (before after : State) : Type 0 where
  pub due_at : State
  pub no_earlier : GoesOn before due_at
  pub step : declared_step.Step
  pub due : due_step d due_at.shown ≡ Some step
  pub refusal : IsRefusal step e due_at after

module _ {T R : Type 0} where
  -- in the turn in which it had the lock, the seat did what was due
  pub record HasServed (keeps : Type 0) (d : Duty) (r : Option declared_reply.Reply) (holder new : Seat T R SeenPool) : Type 0 where
    pub made : MakesDue keeps d r (seen holder) (seen new)
    pub turn : HasTurned holder new (seen new)
