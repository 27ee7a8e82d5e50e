-- What a durable transaction of the only handle of a pool leaves: it has each earlier one with it, whatever a crash
-- leaves.
use Rattle.std.specs.Prelude.{ℕ, ◌≡◌, ◌<◌, List, Ok, Result, Some, slice_get}
use Rattle.base.specs.declared.error.PoolError.{PoolError}
use Rattle.base.specs.declared.names.Owner.{Owner}
use Rattle.base.specs.declared.names.Receipt.{Receipt}
use Rattle.base.specs.declared.operation.Op.{Op}
use Rattle.base.specs.history.Contents.{Contents}
use Rattle.base.specs.history.History.{AreRising, Entry}
use Rattle.base.specs.history.Past.{Past}
use Rattle.base.specs.steps.Explains.{IsLeftBy}
use Rattle.base.specs.steps.Seen.{IsKnownDurable}
use Rattle.base.specs.steps.Steps.{State}
use Rattle.base.specs.steps.Tables.{AreTablesExplained}
use Rattle.device_model.specs.declared.device.SectorDevice.{Ghosts}
use Rattle.pool_threads.specs.declared.handle.Handle.{Handle}
use Rattle.pool_threads.specs.Handles.{view_seen}
use Rattle.pool_threads.specs.Transacts.{TransactsDurably, TransactsOrLacks}
use Rattle.pool_threads.specs.Views.{SeenPool, since, viewed_state}
use Rattle.pool_threads.specs.Waits.{WaitsForFlush}
use Rattle.fronts.specs.Fronts.{IsFrontOf}
use Rattle.fronts.specs.RisingPools.{RisesAlone}

-- the past of what is seen explains it: its tables are exact, and its entries lead to its contents
abbrev pub IsExplained : SeenPool → Type 0
IsExplained v = ∥ AreTablesExplained (viewed_state v).shown v.past ∥₁

-- contents are a front that has the entry of this ordinal, and so each before it
pub record IsFrontWith (ordinal : ℕ) (past : Past) (contents : Contents) : Type 0 where
  pub front : IsFrontOf past contents
  pub has : ordinal < front.count

-- Where groups rise, whatever a crash leaves has an entry that is durable, and each before it. So it is of a pool whose
-- create began at this moment.
abbrev pub DurableEntriesHaveAllBefore : Type 0
DurableEntriesHaveAllBefore = (ordinal : ℕ) (e : Entry) (s : State) (created : ℕ) (contents : Contents) → AreTablesExplained s.shown s.past → AreRising s.past.entries
    → slice_get s.past.entries ordinal ≡ Some e → IsKnownDurable ordinal e.group s → IsLeftBy (since created s.past) contents → IsFrontWith ordinal (since created s.past) contents

module _ {Dev : Type 0} (G : Ghosts Dev) where
  -- A transaction that was made leaves a pool that its past explains, whatever other handles do beside it.
  abbrev pub TransactsAreExplained : Type 0
  TransactsAreExplained = (owner : Owner) (ops : List Op) (receipt : Receipt) (old new : Handle Dev G) → TransactsOrLacks owner ops (Ok receipt) old new → IsExplained (view_seen new)

  -- A wait for a receipt keeps that, however it ends: also by a sync, after which the handle doesn't look.
  abbrev pub WaitsStayExplained : Type 0
  WaitsStayExplained = (receipt : Receipt) (result : Result (Unit {0}) PoolError) (old new : Handle Dev G) → WaitsForFlush receipt result old new → IsExplained (view_seen old) → IsExplained (view_seen new)

  -- So with a durable transaction of the only handle of a pool, whatever a crash leaves then has each earlier one.
  abbrev pub DurableTransactsHaveAllBefore : Type 0
  DurableTransactsHaveAllBefore = (owner : Owner) (ops : List Op) (receipt : Receipt) (old new : Handle Dev G) → TransactsDurably owner ops (Ok receipt) old new → RisesAlone old
      → ∥ ((created : ℕ) (contents : Contents) → IsLeftBy (since created (view_seen new).past) contents → IsFrontWith receipt.ordinal.0 (since created (view_seen new).past) contents) ∥₁
