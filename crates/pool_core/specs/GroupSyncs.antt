-- Syncs of whole groups: the steps that one call makes, in order, up to its end or to the first that is refused.
use Rattle.std.specs.Prelude.{ℕ, zero, suc, ◌≡◌, ◌⊎◌, Bool, true, false, Result, Ok, Err, is_some}
use Rattle.base.specs.declared.error.PoolError.{PoolError}
use Rattle.base.specs.declared.names.Group.{Group}
use Rattle.base.specs.declared.step.Step as declared_step
use Rattle.base.specs.declared.step.Step.TheVariants as step
use Rattle.base.specs.declared.step.Reply as declared_reply
use Rattle.base.specs.declared.step.Reply.TheVariants as reply
use Rattle.base.specs.steps.Runs.{reply_of}
use Rattle.device_model.specs.declared.device.SectorDevice.{Ghosts}
use Rattle.pool_core.specs.declared.state.PoolState.{PoolState}
use Rattle.pool_core.specs.States.{shown}
use Rattle.pool_core.specs.Turns.{MakesStep}

module _ {Dev : Type 0} {G : Ghosts Dev} where
  -- one step, whose answer is this reply
  abbrev pub Call : {A : Type 0} → declared_step.Step → (A → declared_reply.Reply) → Result A PoolError → PoolState Dev G → PoolState Dev G → Type 0
  Call s make answer old new = MakesStep s (reply_of make answer) old new

  -- the one, and the other after it unless the one is refused
  abbrev pub AndThen : {A B : Type 0} → (Result A PoolError → PoolState Dev G → PoolState Dev G → Type 0) → (Result B PoolError → PoolState Dev G → PoolState Dev G → Type 0)
      → Result B PoolError → PoolState Dev G → PoolState Dev G → Type 0
  AndThen {A} first next answer old new = ((e : PoolError) × first (Err e) old new × (answer ≡ Err e))
      ⊎ ((a : A) × (middle : PoolState Dev G) × first (Ok a) old middle × next answer middle new)

  -- the one if this is so, and else nothing
  abbrev pub If : {A : Type 0} → Bool → (Result A PoolError → PoolState Dev G → PoolState Dev G → Type 0) → Result (Unit {0}) PoolError → PoolState Dev G → PoolState Dev G → Type 0
  If {A} true does answer old new = ((e : PoolError) × does (Err e) old new × (answer ≡ Err e)) ⊎ ((a : A) × does (Ok a) old new × (answer ≡ Ok tt))
  If false does answer old new = (answer ≡ Ok tt) × (new ≡ old)

  -- so many steps of a sync, each with more to come
  abbrev pub MakesMore : ℕ → PoolState Dev G → PoolState Dev G → Type 0
  MakesMore zero old new = new ≡ old
  MakesMore (suc count) old new = (middle : PoolState Dev G) × MakesMore count old middle × MakesStep step.SyncStep reply.More middle new

  -- the steps of the sync that runs, up to the one that syncs its group, or is refused
  pub record EndsSync (answer : Result Group PoolError) (old new : PoolState Dev G) : Type 0 where
    pub count : ℕ
    pub middle : PoolState Dev G
    pub steps : MakesMore count old middle
    pub last : Call step.SyncStep (λ (g : Group). reply.Synced g) answer middle new

  -- A sync of the closed group: it is marked as quiesced, which is refused if it is quiesced already, its sync starts
  -- with this moment, and ends.
  abbrev pub SyncsClosed : ℕ → Result Group PoolError → PoolState Dev G → PoolState Dev G → Type 0
  SyncsClosed moment answer old new = (marked : Result Group PoolError) × (middle : PoolState Dev G) × Call step.MarkQuiesced (λ (g : Group). reply.Quiesced g) marked old middle
      × AndThen (Call (step.StartSync moment) (λ (g : Group). reply.Syncing g)) EndsSync answer middle new

  -- A sync of the open group: a sync that runs ends first, then a closed group is synced, and then the open group is
  -- closed and synced.
  abbrev pub SyncsOpen : ℕ → Result Group PoolError → PoolState Dev G → PoolState Dev G → Type 0
  SyncsOpen moment answer old new = AndThen {A = Unit {0}} (λ first a b. If (is_some (shown a).line.syncing) EndsSync first a b)
      (AndThen {A = Unit {0}} (λ second a b. If (is_some (shown a).line.middle) (SyncsClosed moment) second a b)
      (AndThen (Call step.CloseGroup (λ (g : Group). reply.Opened g)) (SyncsClosed moment))) answer old new
