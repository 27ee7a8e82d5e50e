-- Pools that several handles share: what a crash leaves of them if each turn with the lock keeps groups rising, whoever
-- had it.
use Rattle.std.specs.Prelude.{ℕ, ◌≡◌, ◌≢◌, All, Bool, IsTrue, List, Option, Result, false}
use Rattle.base.specs.declared.error.PoolError.{PoolError}
use Rattle.base.specs.declared.names.ObjectId.{ObjectId}
use Rattle.base.specs.declared.names.Owner.{Owner}
use Rattle.base.specs.declared.names.Receipt.{Receipt}
use Rattle.base.specs.declared.operation.Op.{Op}
use Rattle.base.specs.declared.operation.Shape.{Shape}
use Rattle.base.specs.declared.range.ObjectRange.{ObjectRange}
use Rattle.base.specs.declared.range.Range.{Range}
use Rattle.base.specs.declared.step.Reply as declared_reply
use Rattle.base.specs.declared.step.Step as declared_step
use Rattle.base.specs.disk.Disk.{Disk}
use Rattle.device_model.specs.declared.device.SectorDevice.{Ghosts}
use Rattle.pool_core.specs.declared.state.PoolState.{PoolState}
use Rattle.pool_tables.specs.declared.duty.Duty.{Duty}
use Rattle.pool_threads.specs.declared.handle.Handle.{Handle}
use Rattle.pool_threads.specs.declared.handle.LastSeen.{LastSeen}
use Rattle.pool_threads.specs.declared.shared.Shared.{Shared}
use Rattle.pool_threads.specs.Answers.{Takes}
use Rattle.pool_threads.specs.Fetches.{MakesFetch}
use Rattle.pool_threads.specs.Handles.{IsLastState, OpensBehind, opening_view}
use Rattle.pool_threads.specs.Serves.{MakesDue}
use Rattle.pool_threads.specs.Transacts.{MakesTransaction}
use Rattle.pool_threads.specs.Views.{GrowsTo, IsPoolStep, SeenPool}
use Rattle.word_lock.specs.declared.rule.Turn.{Turn}
use Rattle.word_lock.specs.Seats.{seat_number, turns}
use Rattle.word_lock.specs.Turns.{IsTurnLine, turns_of}
use Rattle.fronts.specs.RisingPools.{CommitsNothing, IsInOrder, MakesTransactions, StaysInOrder, is_commit}

-- A turn with the lock that keeps groups rising: it left the pool as it was; or it made one step that is no commit, a
-- whole transaction, the steps that were due for a duty, or those of a fetch.
pub data IsOrderlyTurn (keeps : Type 0) (t : Turn SeenPool) : Type 0 where
  by_no_change : t.left ≡ t.took → IsOrderlyTurn keeps t
  by_one_step : (s : declared_step.Step) (r : declared_reply.Reply) → is_commit s r ≡ false → IsPoolStep keeps s r t.took t.left → IsOrderlyTurn keeps t
  by_transaction : (owner : Owner) (ranges : List ObjectRange) (plan : List Shape) (ops : List Op) (result : Result Receipt PoolError) → MakesTransaction keeps owner ranges plan ops result t.took t.left → IsOrderlyTurn keeps t
  by_duty : (d : Duty) (r : Option declared_reply.Reply) → MakesDue keeps d r t.took t.left → IsOrderlyTurn keeps t
  by_read : (owner : Owner) (object : ObjectId) (range : Range) (result : Option (Result (List ℕ) PoolError)) → MakesFetch keeps owner object range result t.took t.left → IsOrderlyTurn keeps t

-- Turns of whichever handles, of which each took what the one before it left, keep groups rising if each is orderly. A
-- crash at any moment of them leaves a front.
abbrev pub OrderlyTurnsStayInOrder : Type 0
OrderlyTurnsStayInOrder = (keeps : Bool) (v w : SeenPool) (all : List (ℕ × Turn SeenPool)) → IsTurnLine (GrowsTo (IsTrue keeps)) v all w → All (λ t. IsOrderlyTurn (IsTrue keeps) t.1) all
    → IsInOrder keeps v → StaysInOrder keeps v w

module _ {Dev : Type 0} {G : Ghosts Dev} where
  -- the handle had orderly turns and no others
  abbrev pub TakesOrderlyTurns : Handle Dev G → Handle Dev G → Type 0
  TakesOrderlyTurns = Takes (IsOrderlyTurn (IsTrue G.keeps_model))

module _ {Dev : Type 0} (G : Ghosts Dev) where
  -- a call that makes whole transactions has orderly turns, whatever other handles do beside it
  abbrev pub TransactsTakeOrderlyTurns : Type 0
  TransactsTakeOrderlyTurns = (old new : Handle Dev G) → MakesTransactions old new → TakesOrderlyTurns old new

  -- and so has one that commits nothing
  abbrev pub OtherCallsTakeOrderlyTurns : Type 0
  OtherCallsTakeOrderlyTurns = (old new : Handle Dev G) → CommitsNothing old new → TakesOrderlyTurns old new

  -- a pool is in order as it is opened, shared or not
  abbrev pub OpenedPoolsAreInOrder : Type 0
  OpenedPoolsAreInOrder = (p : Shared Dev G) (old : Disk) (dirty_max : ℕ) → OpensBehind (IsTrue G.keeps_model) old dirty_max (opening_view p) → IsInOrder G.keeps_model (opening_view p)

  -- A pool that was shared has ended after what one of its handles had seen. The turns of that handle were orderly, and
  -- those of each other one. So a crash at any moment from its open to its end leaves a front of all that was committed,
  -- whoever committed it.
  abbrev pub SharedPoolsLeaveFronts : Type 0
  SharedPoolsLeaveFronts = (p : Shared Dev G) (old : Disk) (dirty_max : ℕ) (l : LastSeen Dev G) (s : PoolState Dev G) → OpensBehind (IsTrue G.keeps_model) old dirty_max (opening_view p) → (last : IsLastState p l s)
      → All (IsOrderlyTurn (IsTrue G.keeps_model)) (turns l.seat) → ((seat : ℕ) → seat ≢ seat_number l.seat → All (IsOrderlyTurn (IsTrue G.keeps_model)) (turns_of seat last.history.0))
      → StaysInOrder G.keeps_model (opening_view p) last.last
