-- How the durable transactions of a frame become durable: by one flush of the log for all of them (`MakesDurable`), and
-- if it is refused, by questions (`AsksAll`).
use Rattle.std.specs.Prelude.{◌≡◌, ◌⊎◌, All, true, false, List, [], ◌∷◌, IfOk, IsSome, Option, Some, None, Result, Ok, Err}
use Rattle.std.specs.List.{Contains}
use Rattle.base.specs.declared.error.PoolError.{PoolError}
use Rattle.base.specs.declared.names.Receipt.{Receipt}
use Rattle.base.specs.declared.step.Reply.TheVariants as reply
use Rattle.base.specs.declared.step.Step.TheVariants as step
use Rattle.device_model.specs.declared.device.SectorDevice.{Ghosts}
use Rattle.frames.specs.declared.answer.Answer.{Answer}
use Rattle.frames.specs.declared.answer.Outcome.{Outcome}
use Rattle.frames.specs.declared.answer.Outcome.TheVariants as outcome
use Rattle.pool_threads.specs.declared.handle.Handle.{Handle}
use Rattle.pool_threads.specs.Answers.{Makes}
use Rattle.pool_threads.specs.Waits.{FsyncsAll, LeavesAllDurable}

-- the receipt in the answer of a durable transaction
abbrev pub durable_receipt : Outcome → Option Receipt
durable_receipt (outcome.MadeDurable receipt) = Some receipt
durable_receipt o = None

-- there is the answer of a durable transaction among these, or none
abbrev pub AwaitsFlush : List Answer → Type 0
AwaitsFlush answers = (a : Answer) × Contains answers a × IsSome (durable_receipt a.outcome)

abbrev pub AwaitsNoFlush : List Answer → Type 0
AwaitsNoFlush answers = All (λ (a : Answer). durable_receipt a.outcome ≡ None) answers

module _ {Dev : Type 0} {G : Ghosts Dev} where
  -- all that was committed before is durable then, unless it was refused
  abbrev pub Flushes : Result (Unit {0}) PoolError → Handle Dev G → Handle Dev G → Type 0
  Flushes result old new = FsyncsAll result old new × IfOk result (λ _. LeavesAllDurable old new)

  -- After the flush was refused so the handle asks whether the commit of a durable transaction is durable even so. If
  -- it isn't, this is the answer.
  abbrev pub Asks : PoolError → Answer → Answer → Handle Dev G → Handle Dev G → Type 0
  Asks e made answer old new = ((durable_receipt made.outcome ≡ None) × (answer ≡ made) × (new ≡ old))
      ⊎ ((receipt : Receipt) × (durable_receipt made.outcome ≡ Some receipt)
      × (((answer ≡ made) × Makes (step.Durable receipt) (reply.Durable true) old new)
      ⊎ ((answer ≡ record { number = made.number; outcome = outcome.NotDurable receipt e }) × Makes (step.Durable receipt) (reply.Durable false) old new)))

  -- so it does for all, in their order
  abbrev pub AsksAll : PoolError → List Answer → List Answer → Handle Dev G → Handle Dev G → Type 0
  AsksAll e [] [] old new = new ≡ old
  AsksAll e (m ∷ ms) (a ∷ others) old new = (next : Handle Dev G) × Asks e m a old next × AsksAll e ms others next new
  AsksAll e [] (a ∷ others) old new = ⊥
  AsksAll e (m ∷ ms) [] old new = ⊥

  -- The commits of all durable transactions are made durable by one flush of the log. If it is refused, the handle asks
  -- for each of them.
  abbrev pub FlushesForAll : List Answer → List Answer → Handle Dev G → Handle Dev G → Type 0
  FlushesForAll made answers old new = ((answers ≡ made) × Flushes (Ok tt) old new)
      ⊎ ((e : PoolError) × (flushed : Handle Dev G) × Flushes (Err e) old flushed × AsksAll e made answers flushed new)

  -- so it is if there is one; else nothing is done
  abbrev pub MakesDurable : List Answer → List Answer → Handle Dev G → Handle Dev G → Type 0
  MakesDurable made answers old new = (AwaitsNoFlush made × (answers ≡ made) × (new ≡ old)) ⊎ (AwaitsFlush made × FlushesForAll made answers old new)
