-- What a serve of the pool in a file did, and what it said first.
use Rattle.std.specs.Prelude.{ℕ, ◌≡◌, ◌≢◌, ◌⊎◌, IfOk, IfSome, IsOk, IsSome, IsTrue, List, Option, None, Some, Result, Ok, Err}
use Rattle.std.specs.Io.KnownBytes.{Appends}
use Rattle.base.specs.declared.error.PoolError.{PoolError}
use Rattle.base.specs.declared.names.Group.{Group}
use Rattle.device_model.specs.declared.device.SectorDevice.{Ghosts}
use Rattle.file_devices.specs.declared.held_file.FileRefusal.{FileRefusal}
use Rattle.serving.specs.Inputs.{BeginsWithFrames, EndsWell, Exchange, ServesFrames, Streams, program}
use Rattle.serving.specs.Written.{AppendsFront}
use Rattle.serving.specs.declared.inputs.Ending.{Ending}
use Rattle.serving.specs.declared.inputs.Ending.TheVariants.{Done}
use Rattle.frames.specs.Openings.{bytes_of_opening, bytes_of_unopened}
use Rattle.frames.specs.declared.opening.Opening.{Opening}
use Rattle.import_replay.specs.ImportRefusals.{IsImportRefusal}
use Rattle.running_pools.specs.LeftDevices.{ClosesAfter, HasAllOf, HoldsRunUpon}
use Rattle.pool_threads.specs.Answers.{state_seen}
use Rattle.pool_threads.specs.Handles.{IsLeftBehind, IsNewHandle, OpensBehind, ShowsImport, are_shared_limits_allowed, moment_in, opened_in, opening_view, shared_of}
use Rattle.pool_threads.specs.declared.handle.Handle.{Handle}
use Rattle.pool_threads.specs.declared.handle.LastSeen.{LastSeen}
use Rattle.pool_threads.specs.declared.opened.Opened.{Opened}
use Rattle.pool_threads.specs.declared.pool.Pool.{Pool}
use Rattle.pool_threads.specs.declared.shared.Shared.{Shared}
use Rattle.command_arguments.specs.declared.arguments.ServeArguments.{ServeArguments}
use Rattle.read_commands.specs.declared.failure.Failure.{Failure}
use Rattle.read_commands.specs.Failures.{refusal_of}

-- what the first frame says of what an import found and did
abbrev pub opening_of : Opened → Opening
opening_of o = record { guid = o.guid; group = o.group; records = o.records }

-- The frame that says why a pool isn't open was written, or a front of it, with some number of the system and some text.
abbrev pub SaysUnopened : Option PoolError → Option (List ℕ) → Option (List ℕ) → Type 0
SaysUnopened refusal old new = (system_error : ℕ) × (cause : List ℕ) × AppendsFront old new (bytes_of_unopened refusal system_error cause)

-- no pool was opened: the input wasn't read, and the output says why
pub record StaysUnopened (refusal : Option PoolError) (status : ℕ) (old new : Streams) : Type 0 where
  pub failed : status ≢ 0
  pub unread : new.input ≡ old.input
  pub said : SaysUnopened refusal old.output new.output

-- the first frame could not be written: the input wasn't read
pub record StopsAtOpening {E : Type 0} (opened : List ℕ) (result : Result Ending E) (old new : Streams) : Type 0 where
  pub failed : IfOk result (λ (e : Ending). e ≢ Done)
  pub unread : new.input ≡ old.input
  pub front : AppendsFront old.output new.output opened

module _ {Dev : Type 0} {G : Ghosts Dev} where
  -- After the first frame a new handle of this pool answered frames, one after another, and then synced the pool. The
  -- frames stand in the input from its beginning, and what the output got after the first one is a front of their
  -- answers. If they ended well, they were all of the input, and the output has all answers.
  pub record AnswersInput {E : Type 0} (p : Shared Dev G) (opened : List ℕ) (result : Result Ending E) (old new : Streams) : Type 0 where
    pub ending : Ending
    pub exchanges : List Exchange
    pub synced : Result Group PoolError
    pub first : Handle Dev G
    pub is_new : IsNewHandle p first
    pub last : Handle Dev G
    pub serves : ServesFrames program exchanges synced first last
    pub begins : BeginsWithFrames exchanges old.input
    pub middle : Option (List ℕ)
    pub opening : Appends old.output middle opened
    pub ends : EndsWell ending exchanges (record { input = old.input; output = middle }) new
    pub well : IfOk result (λ (e : Ending). (e ≡ ending) × IsOk synced)

  abbrev pub ServesPool : {E : Type 0} → Shared Dev G → List ℕ → Result Ending E → Streams → Streams → Type 0
  ServesPool p opened result old new = StopsAtOpening opened result old new ⊎ AnswersInput p opened result old new

  -- a new handle of this pool served so, and this is what it had seen as it left
  abbrev pub ServesAndLeaves : {E : Type 0} → Shared Dev G → List ℕ → Result Ending E → Streams → Streams → LastSeen Dev G → Type 0
  ServesAndLeaves p opened result old new left = (StopsAtOpening opened result old new × ((h : Handle Dev G) × IsNewHandle p h × IsLeftBehind h left))
      ⊎ ((a : AnswersInput p opened result old new) × IsLeftBehind a.last left)

  -- then the pool was closed, if the device came back
  abbrev pub ServesAndCloses : {E : Type 0} → Shared Dev G → List ℕ → Result Ending E → Streams → Streams → Option Dev → Type 0
  ServesAndCloses p opened result old new back = StopsAtOpening opened result old new
      ⊎ ((a : AnswersInput p opened result old new) × IfSome back (λ device. (left : LastSeen Dev G) × IsLeftBehind a.last left × ClosesAfter p left device))

  -- If the pool was synced, and the device came back, a run upon what this device held has left it: with all that the
  -- handle had seen when it had answered the frames, acknowledged.
  abbrev pub ServesAndHolds : {E : Type 0} → Shared Dev G → List ℕ → Result Ending E → Streams → Streams → Dev → Option Dev → Type 0
  ServesAndHolds p opened result old new device back = StopsAtOpening opened result old new
      ⊎ ((a : AnswersInput p opened result old new) × (IsOk a.synced → IfSome back (HoldsRunUpon G (HasAllOf (state_seen a.serves.served).past) device)))

module _ {Dev : Type 0} (G : Ghosts Dev) where
  -- the pool was opened that this device holds, with the limit and the moment that were given
  pub record OpensOn (device : Dev) (given : ServeArguments) (pool : Pool Dev G) : Type 0 where
    pub opens : OpensBehind (IsTrue G.keeps_model) (G.disk device) given.dirty_max (opening_view (shared_of pool))
    pub moment : moment_in (shared_of pool) ≡ given.moment
    pub shown : IsTrue G.keeps_model → ShowsImport given.moment (G.disk device) (opened_in pool) (opening_view (shared_of pool))

  -- why the pool of this device wasn't opened
  abbrev pub IsUnopened : Dev → ServeArguments → Failure → Type 0
  IsUnopened device given failure = (e : PoolError) × IsImportRefusal (G.size device) (are_shared_limits_allowed given.dirty_max given.cache_blocks) e × (refusal_of failure ≡ Some e)

  -- So it was opened, and served. The first frame says what its import found and did.
  pub record ServesOn (device : Dev) (given : ServeArguments) (status : ℕ) (old new : Streams) : Type 0 where
    pub pool : Pool Dev G
    pub opens : OpensOn device given pool
    pub result : Result Ending Failure
    pub serves : ServesPool (shared_of pool) (bytes_of_opening (opening_of (opened_in pool))) result old new
    pub done : status ≡ 0 → result ≡ Ok Done

  -- it was refused, and the first frame has the refusal
  pub record RefusesToServe (device : Dev) (given : ServeArguments) (status : ℕ) (old new : Streams) : Type 0 where
    pub error : PoolError
    pub refused : IsImportRefusal (G.size device) (are_shared_limits_allowed given.dirty_max given.cache_blocks) error
    pub stays : StaysUnopened (Some error) status old new

  abbrev pub ServesOrRefuses : Result Dev FileRefusal → ServeArguments → ℕ → Streams → Streams → Type 0
  ServesOrRefuses (Ok device) given status old new = ServesOn device given status old new ⊎ RefusesToServe device given status old new
  ServesOrRefuses (Err cause) given status old new = StaysUnopened None status old new

  -- So it was opened and served, and this came back: the device, if all was done, with all that was answered.
  pub record ServesAndGives (device : Dev) (given : ServeArguments) (status : ℕ) (old new : Streams) (back : Option Dev) : Type 0 where
    pub pool : Pool Dev G
    pub opens : OpensOn device given pool
    pub result : Result Ending Failure
    pub serves : ServesAndHolds (shared_of pool) (bytes_of_opening (opening_of (opened_in pool))) result old new device back
    pub done : status ≡ 0 → result ≡ Ok Done
    pub given_back : status ≡ 0 → IsSome back

  abbrev pub GivesOrRefuses : Dev → ServeArguments → ℕ → Streams → Streams → Option Dev → Type 0
  GivesOrRefuses device given status old new back = ServesAndGives device given status old new back ⊎ RefusesToServe device given status old new
