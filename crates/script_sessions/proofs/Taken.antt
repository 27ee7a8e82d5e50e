-- The device that is taken of a pool is the one that its last command left.
use Rattle.std.proofs.Common.{◌≡◌, subst}
use Rattle.std.specs.Prelude.{IfSome, IsTrue, Option, Some, true}
use Rattle.device_model.specs.MemState.{MemState}
use Rattle.pool_core.specs.States.{device_of}
use Rattle.pool_threads.specs.Handles.{EndsIn, IsLastState, kin_left, opening_view, owned_of}
use Rattle.pool_threads.specs.Views.{GrowsTo, SeenPool}
use Rattle.scripts.specs.OwnPools.{MemPool}
use Rattle.script_sessions.specs.SharedPools.{IsDeviceIn}
use Rattle.script_sessions.specs.declared.shared_pool.SharedPool.{SharedPool}
use Rattle.word_lock.specs.Seats.{seat_number, turns}
use Rattle.word_lock.specs.Turns.{IsTurnHistory}

pub device_left : (shared : SharedPool) (state : MemPool) (device : MemState) → kin_left shared.last ≡ 0 → (closed : Option MemPool) → IfSome closed (IsLastState (owned_of shared.pool) shared.last)
    → closed ≡ Some state → device ≡ device_of state → IsDeviceIn shared device
device_left shared state device only closed ends some is =
    let p = owned_of shared.pool in
    let last : IsLastState p shared.last state = subst (λ (o : Option MemPool). IfSome o (IsLastState p shared.last)) some ends in
    record {
      state = state;
      device_is = is;
      ends = subst (λ (v : SeenPool). EndsIn p state v) (last.alone only) last.ends;
      history = subst (λ (v : SeenPool). IsTurnHistory (GrowsTo (IsTrue true)) (opening_view p) (seat_number shared.last.seat) (turns shared.last.seat) v) (last.alone only) last.history;
    }
