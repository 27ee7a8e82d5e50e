-- A plan of a fault, which no view shows.
use Rattle.std.proofs.Common.{◌≡◌, ◌∙◌, ◌++◌, ◌∷◌, [], List, ap, sym, subst}
use Rattle.std.specs.Prelude.{Bool, IsTrue, Result}
use Rattle.base.specs.declared.error.PoolError.{PoolError}
use Rattle.base.specs.declared.names.Receipt.{Receipt}
use Rattle.base.specs.history.Past.{Past}
use Rattle.base.specs.steps.Tables.{AreTablesExplained}
use Rattle.base.specs.steps.Steps.{State}
use Rattle.base.specs.kept.Stored.{IsHeld}
use Rattle.device_model.specs.declared.device.SectorDevice.{Ghosts}
use Rattle.pool_core.specs.declared.state.PoolState.{PoolState}
use Rattle.pool_tables.specs.Told.{ShownPool, held_with, state_with}
use Rattle.pool_core.specs.KeptSafe.{IsKeptSafe, OnDisk, on_disk}
use Rattle.pool_core.specs.States.{shown, told}
use Rattle.pool_tables.specs.Receipts.{ChecksReceipt}
use Rattle.pool_threads.specs.declared.handle.Handle.{Handle}
use Rattle.pool_threads.specs.Answers.{TakesOne}
use Rattle.pool_threads.specs.Handles.{HasLooked, StaysInPool, kin_of, turns_of, view_seen}
use Rattle.pool_threads.specs.Views.{Explains, GrowsTo, SeenPool, since}
use Rattle.pool_threads.specs.Waits.{FindsReceipt}
use Rattle.word_lock.specs.declared.rule.Turn.{Turn}
use Rattle.word_lock.specs.Seats.{HasMetNone}
use Rattle.word_lock.specs.Turns.{turn}

module _ {Dev : Type 0} {G : Ghosts Dev} (old new : PoolState Dev G) (same : told new ≡ told old) (disk : on_disk new ≡ on_disk old) (v : SeenPool) where
  pub explained_still : Explains old v → Explains new v
  explained_still x = record {
    state = x.state ∙ ap (λ (t : ShownPool). state_with t v.past) (sym same);
    disk_is = x.disk_is ∙ ap (λ (d : Past → OnDisk). (d v.past).disk) (sym disk);
    explained = subst (λ (t : ShownPool). ∥ AreTablesExplained t.shown v.past ∥₁) (sym same) x.explained;
    held = λ keeps. subst (λ (t : ShownPool). ∥ IsHeld (held_with t v.past) ∥₁) (sym same) (x.held keeps);
    safe = λ keeps created follows. subst (λ (d : Past → OnDisk). ∥ IsKeptSafe (d (since created v.past)) ∥₁) (sym disk) (x.safe keeps created follows);
  }

-- from the handle before it has the lock, over what its seat that has it has seen and had, to the handle after
module _ {Dev : Type 0} {G : Ghosts Dev} (old new : Handle Dev G) (ts : List (Turn SeenPool)) (v : SeenPool) where
  pub looked_by : StaysInPool old new → ts ≡ turns_of old → GrowsTo (IsTrue G.keeps_model) (view_seen old) v → (kin_of old ≡ 0 → v ≡ view_seen old) → view_seen new ≡ v → turns_of new ≡ ts ++ turn v (view_seen new) ∷ []
      → HasMetNone old.seat new.seat → HasLooked old new
  looked_by pool same onward alone still turned met = record {
    same_pool = pool;
    onward = subst (GrowsTo (IsTrue G.keeps_model) (view_seen old)) (sym still) onward;
    turn = turned ∙ ap (λ (us : List (Turn SeenPool)). us ++ turn v (view_seen new) ∷ []) same ∙ ap (λ (w : SeenPool). turns_of old ++ turn w (view_seen new) ∷ []) (sym still);
    met_none = met;
    alone = λ only. still ∙ alone only;
  }

-- A look is a turn that took and left the same.
pub looked_one : {Dev : Type 0} {G : Ghosts Dev} {P : Turn SeenPool → Type 0} {old new : Handle Dev G} → HasLooked old new → P (turn (view_seen new) (view_seen new)) → TakesOne P old new
looked_one {new = new} l p = record {
  same_pool = l.same_pool;
  made = record { took = view_seen new; onward = l.onward; made = p; turn = l.turn; met_none = l.met_none; alone = l.alone };
}

-- what a pool says of a receipt, its view says
pub found_by : {Dev : Type 0} {G : Ghosts Dev} (receipt : Receipt) (found : Result Bool PoolError) (p : PoolState Dev G) (t : Turn SeenPool) → Explains p t.left → ChecksReceipt receipt found (shown p) → FindsReceipt receipt found t
found_by receipt found p t x checked = record {
  checked = subst (λ (a : State). ChecksReceipt receipt found a.shown) (sym x.state) checked;
  explained = subst (λ (a : State). ∥ AreTablesExplained a.shown a.past ∥₁) (sym x.state) x.explained;
}
