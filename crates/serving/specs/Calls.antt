-- What a handle does for the requests of a frame, and what they are answered.
use Rattle.std.specs.Prelude.{ℕ, ◌≡◌, All, Bool, List, [], ◌∷◌, IfSome, Result, Ok, Err, nat_lt, if◌then◌else◌}
use Rattle.base.specs.declared.error.PoolError.{PoolError}
use Rattle.base.specs.declared.names.Group.{Group}
use Rattle.base.specs.declared.names.ObjectId.{ObjectId}
use Rattle.base.specs.declared.names.Owner.{Owner}
use Rattle.base.specs.declared.names.Receipt.{Receipt}
use Rattle.base.specs.declared.status.Status.{Status}
use Rattle.base.specs.declared.step.Reply.TheVariants as reply
use Rattle.base.specs.declared.step.Step.TheVariants as step
use Rattle.base.specs.steps.Runs.{reply_of}
use Rattle.device_model.specs.declared.device.SectorDevice.{Ghosts}
use Rattle.frames.specs.declared.answer.Answer.{Answer}
use Rattle.frames.specs.declared.answer.Outcome.{Outcome}
use Rattle.frames.specs.declared.answer.Outcome.TheVariants as outcome
use Rattle.frames.specs.declared.listing.Listed.{Listed}
use Rattle.frames.specs.declared.request.Call.{Call}
use Rattle.frames.specs.declared.request.Call.TheVariants as call
use Rattle.frames.specs.declared.request.Request.{Request}
use Rattle.pool_threads.specs.declared.handle.Handle.{Handle}
use Rattle.pool_threads.specs.Answers.{Makes, Sees, state_seen}
use Rattle.pool_threads.specs.Fetches.{Fetches}
use Rattle.pool_threads.specs.Handles.{HasLooked}
use Rattle.pool_threads.specs.Objects.{IsListRefusal, objects_from}
use Rattle.pool_threads.specs.Transacts.{TransactsOrLacks}
use Rattle.pool_threads.specs.Waits.{LeavesDurable, SyncsPool}
use Rattle.durable_answers.specs.Durability.{Flushes, MakesDurable, durable_receipt}

-- the objects of a list that lie below a number
abbrev pub listed_below : ℕ → List (ObjectId × ℕ) → List Listed
listed_below past [] = []
listed_below past (x ∷ others) = if nat_lt x.0.0 past then (record { object = x.0; length = x.1 } ∷ listed_below past others) else listed_below past others

-- what a call returned, as an answer
abbrev pub outcome_of : {A : Type 0} → (A → Outcome) → Result A PoolError → Outcome
outcome_of make (Ok x) = make x
outcome_of make (Err e) = outcome.Refused e

module _ {Dev : Type 0} {G : Ghosts Dev} where
  -- In one turn and no other the handle looked, and these are the objects from a number on, below another, that it saw
  -- then.
  pub record ListsBelow (first past : ℕ) (listed : List Listed) (old new : Handle Dev G) : Type 0 where
    pub looked : HasLooked old new
    pub objects : listed ≡ listed_below past (objects_from first (state_seen new).shown.contents)

  -- what it lists so, or why it is refused
  abbrev pub ListsObjects : ℕ → ℕ → Result (List Listed) PoolError → Handle Dev G → Handle Dev G → Type 0
  ListsObjects first past (Ok listed) old new = ListsBelow first past listed old new
  ListsObjects first past (Err e) old new = IsListRefusal e old new

  -- What a handle does for a call, and what it is answered. Of a durable transaction this is the commit alone.
  abbrev pub MakesCall : Owner → Call → Outcome → Handle Dev G → Handle Dev G → Type 0
  MakesCall owner (call.Transact r) o old new = (result : Result Receipt PoolError) × TransactsOrLacks owner r.ops result old new × (o ≡ outcome_of outcome.Transacted result)
  MakesCall owner (call.TransactDurably r) o old new = (result : Result Receipt PoolError) × TransactsOrLacks owner r.ops result old new × (o ≡ outcome_of outcome.MadeDurable result)
  MakesCall owner (call.Read object range) o old new = (result : Result (List ℕ) PoolError) × Fetches owner object range result old new × (o ≡ outcome_of outcome.Bytes result)
  MakesCall owner (call.Length object) o old new = (result : Result ℕ PoolError) × Makes (step.Length object) (reply_of (λ n. reply.Length n) result) old new × (o ≡ outcome_of outcome.Length result)
  MakesCall owner (call.Objects first past) o old new = (result : Result (List Listed) PoolError) × ListsObjects first.0 past.0 result old new × (o ≡ outcome_of outcome.Objects result)
  MakesCall owner call.Status o old new = (status : Status) × Makes step.Status (reply.Status status) old new × (o ≡ outcome.Status status)
  MakesCall owner (call.Durable receipt) o old new = (durable : Bool) × Makes (step.Durable receipt) (reply.Durable durable) old new × (o ≡ outcome.Durable durable)
  MakesCall owner call.Flush o old new = (result : Result (Unit {0}) PoolError) × Flushes result old new × (o ≡ outcome_of (λ _. outcome.Flushed) result)
  MakesCall owner call.Sync o old new = (result : Result Group PoolError) × SyncsPool result old new × (o ≡ outcome_of outcome.Synced result)
  MakesCall owner call.Name o old new = (name : List ℕ) × Makes step.Name (reply.Name name) old new × (o ≡ outcome.Name name)

  -- all calls were made, in their order, and each answer has its request's number
  abbrev pub MakesCalls : Owner → List Request → List Answer → Handle Dev G → Handle Dev G → Type 0
  MakesCalls owner [] [] old new = new ≡ old
  MakesCalls owner (r ∷ rs) (a ∷ others) old new = (next : Handle Dev G) × (a.number ≡ r.number) × MakesCall owner r.call a.outcome old next × MakesCalls owner rs others next new
  MakesCalls owner [] (a ∷ others) old new = ⊥
  MakesCalls owner (r ∷ rs) [] old new = ⊥

  -- an answer that says that a commit is durable is right: it is so in what the handle has seen then
  abbrev pub IsDurableAs : Handle Dev G → Handle Dev G → Answer → Type 0
  IsDurableAs old new a = IfSome (durable_receipt a.outcome) (λ receipt. Sees (LeavesDurable receipt) old new)

  -- The requests were made in their order, and then the commits of the durable ones were made durable.
  pub record MakesAll (owner : Owner) (requests : List Request) (answers : List Answer) (old new : Handle Dev G) : Type 0 where
    pub made : List Answer
    pub middle : Handle Dev G
    pub makes : MakesCalls owner requests made old middle
    pub flushes : MakesDurable made answers middle new
    pub durable : All (IsDurableAs old new) answers
