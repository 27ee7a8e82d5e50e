-- What a handle did in its turns.
use Rattle.std.specs.Prelude.{ℕ, ◌≡◌, ◌++◌, All, List, [], ◌∷◌, Result}
use Rattle.base.specs.declared.step.Step as declared_step
use Rattle.base.specs.declared.step.Step.TheVariants as step
use Rattle.base.specs.declared.error.PoolError.{PoolError}
use Rattle.base.specs.declared.names.Group.{Group}
use Rattle.base.specs.declared.names.TxId.{TxId}
use Rattle.base.specs.steps.Runs.{reply_of}
use Rattle.base.specs.declared.step.Reply as declared_reply
use Rattle.base.specs.declared.step.Reply.TheVariants as reply
use Rattle.word_lock.specs.declared.rule.Turn.{Turn}
use Rattle.word_lock.specs.declared.seat.Seat.{Seat}
use Rattle.word_lock.specs.Seats.{HasMetNone, HasTurned, kin, seen, turns}
use Rattle.word_lock.specs.Turns.{turn}
use Rattle.pool_threads.specs.Views.{GrowsTo, IsPoolStep, SeenPool}

-- a step, with this moment where it starts a sync
abbrev pub dated : ℕ → declared_step.Step → declared_step.Step
dated moment (step.StartSync other) = step.StartSync moment
dated moment s = s

-- the reply to a begin, by its answer
abbrev pub begin_reply : Result (TxId × Group) PoolError → declared_reply.Reply
begin_reply = reply_of (λ a. reply.Began a.0 a.1)

-- nothing lies between these turns: each took what the one before it left, the first took the first view, and the last
-- left the last one
abbrev pub AreUnbroken : SeenPool → List (Turn SeenPool) → SeenPool → Type 0
AreUnbroken v [] w = w ≡ v
AreUnbroken v (t ∷ ts) w = (t.took ≡ v) × AreUnbroken t.left ts w

-- in this turn the step was made with this reply
abbrev pub IsStepTurn : Type 0 → declared_step.Step → declared_reply.Reply → Turn SeenPool → Type 0
IsStepTurn keeps s r t = IsPoolStep keeps s r t.took t.left

module _ {T R : Type 0} where
  -- In the turn in which it had the lock, the seat made a step with this reply.
  pub record HasStepped (keeps : Type 0) (s : declared_step.Step) (r : declared_reply.Reply) (holder new : Seat T R SeenPool) : Type 0 where
    pub made : IsPoolStep keeps s r (seen holder) (seen new)
    pub turn : HasTurned holder new (seen new)

  -- In the turn in which it had the lock, the seat did this.
  pub record HasDone (P : SeenPool → SeenPool → Type 0) (holder new : Seat T R SeenPool) : Type 0 where
    pub made : P (seen holder) (seen new)
    pub turn : HasTurned holder new (seen new)

  -- In one turn and no other, of which this is so, the seat went from a view that goes on from what it had seen to the
  -- one that it has seen then. The only seat of a lock took just what it had seen.
  pub record HasHadOne (keeps : Type 0) (P : Turn SeenPool → Type 0) (old new : Seat T R SeenPool) : Type 0 where
    pub took : SeenPool
    pub onward : GrowsTo keeps (seen old) took
    pub made : P (turn took (seen new))
    pub turn : turns new ≡ turns old ++ turn took (seen new) ∷ []
    pub met_none : HasMetNone old new
    pub alone : kin old ≡ 0 → took ≡ seen old

  -- The seat had these turns and no others, of each of which this is so. Between those of the only seat of a lock lies
  -- nothing.
  pub record HasHad (keeps : Type 0) (P : Turn SeenPool → Type 0) (old now : Seat T R SeenPool) : Type 0 where
    pub had : List (Turn SeenPool)
    pub each : All P had
    pub onward : GrowsTo keeps (seen old) (seen now)
    pub turns : turns now ≡ turns old ++ had
    pub met_none : HasMetNone old now
    pub alone : kin old ≡ 0 → AreUnbroken (seen old) had (seen now)

  -- After such turns the seat had one more, of which that is so.
  pub record HasHadAtLast (keeps : Type 0) (P Q : Turn SeenPool → Type 0) (old new : Seat T R SeenPool) : Type 0 where
    pub had : List (Turn SeenPool)
    pub each : All P had
    pub took : SeenPool
    pub onward : GrowsTo keeps (seen old) took
    pub made : Q (turn took (seen new))
    pub turn : turns new ≡ (turns old ++ had) ++ turn took (seen new) ∷ []
    pub met_none : HasMetNone old new
    pub alone : kin old ≡ 0 → AreUnbroken (seen old) had took

  -- In one turn and no other the seat made a step with this reply.
  abbrev pub HasMade : Type 0 → declared_step.Step → declared_reply.Reply → Seat T R SeenPool → Seat T R SeenPool → Type 0
  HasMade keeps s r = HasHadOne keeps (IsStepTurn keeps s r)
