-- A sync of whole groups is made of steps, each of which goes on from a view that explains the state before it to one
-- that explains the state after it.
use Rattle.std.proofs.Common.{◌≡◌, inl, inr, ℕ, refl, sym, subst}
use Rattle.std.specs.Prelude.{zero, suc, Bool, true, false, IsTrue, Result, Ok, Err, is_some}
use Rattle.base.specs.declared.error.PoolError.{PoolError}
use Rattle.base.specs.declared.names.Group.{Group}
use Rattle.base.specs.declared.step.Step as declared_step
use Rattle.base.specs.declared.step.Step.TheVariants as step
use Rattle.base.specs.declared.step.Reply as declared_reply
use Rattle.base.specs.declared.step.Reply.TheVariants as reply
use Rattle.device_model.specs.declared.device.SectorDevice.{Ghosts}
use Rattle.pool_core.specs.declared.state.PoolState.{PoolState}
use Rattle.pool_core.specs.GroupSyncs.{AndThen, Call, EndsSync, If, MakesMore, SyncsClosed, SyncsOpen}
use Rattle.pool_core.specs.States.{device_of, shown}
use Rattle.pool_core.specs.Turns.{MakesStep}
use Rattle.pool_threads.specs.declared.shared.Shared.{Shared}
use Rattle.pool_threads.specs.Finishes.{SyncsAtEnd}
use Rattle.pool_threads.specs.Handles.{IsLaterState}
use Rattle.pool_threads.specs.Views.{Explains, GrowsTo, SeenPool, grows_onward, grows_same, view_after}
use Rattle.pool_threads.proofs.Ends.{ends_in}
use Rattle.pool_threads.proofs.Moved.{moved_by}
use Rattle.pool_threads.proofs.Turned.{explained_after, grows_by_one, stepped_after}

module _ {Dev : Type 0} {G : Ghosts Dev} where
  -- a view explains the state that goes on from this one
  abbrev IsSeenAfter : SeenPool → PoolState Dev G → Type 0
  IsSeenAfter v new = (w : SeenPool) × Explains new w × GrowsTo (IsTrue G.keeps_model) v w

  -- so it is after each view that explains the old state
  abbrev GoesOn : PoolState Dev G → PoolState Dev G → Type 0
  GoesOn old new = (v : SeenPool) → Explains old v → IsSeenAfter v new

  stays : (old new : PoolState Dev G) → new ≡ old → GoesOn old new
  stays old new same v x = (v, subst (λ (p : PoolState Dev G). Explains p v) (sym same) x, grows_same (IsTrue G.keeps_model) v)

  joined : (old middle new : PoolState Dev G) → GoesOn old middle → GoesOn middle new → GoesOn old new
  joined old middle new first later v x =
      let a = first v x in
      let b = later a.0 a.1 in
      (b.0, b.1, grows_onward (IsTrue G.keeps_model) v a.0 b.0 a.2 b.2)

  by_step : (s : declared_step.Step) (r : declared_reply.Reply) (old new : PoolState Dev G) → MakesStep s r old new → GoesOn old new
  by_step s r old new made v x =
      let w : SeenPool = view_after s r v new in
      let moves = moved_by s r old new made.calls in (
        w,
        explained_after s r old new made.turns made.safe moves v x w refl,
        grows_by_one (IsTrue G.keeps_model) s r v v w refl (stepped_after s r old new made.turns made.safe moves v x w refl),
      )

  by_call : {A : Type 0} (s : declared_step.Step) (make : A → declared_reply.Reply) (answer : Result A PoolError) (old new : PoolState Dev G) → Call s make answer old new → GoesOn old new
  by_call s make answer old new made = by_step s _ old new made

  module _ {A : Type 0} (First : Result A PoolError → PoolState Dev G → PoolState Dev G → Type 0)
      (by_first : (answer : Result A PoolError) (old new : PoolState Dev G) → First answer old new → GoesOn old new) where
    by_if : (b : Bool) (answer : Result (Unit {0}) PoolError) (old new : PoolState Dev G) → If b First answer old new → GoesOn old new
    by_if true answer old new (inl (e, made, is)) = by_first (Err e) old new made
    by_if true answer old new (inr (a, made, is)) = by_first (Ok a) old new made
    by_if false answer old new none = stays old new none.1

    module _ {B : Type 0} (Next : Result B PoolError → PoolState Dev G → PoolState Dev G → Type 0)
        (by_next : (answer : Result B PoolError) (old new : PoolState Dev G) → Next answer old new → GoesOn old new) where
      by_both : (answer : Result B PoolError) (old new : PoolState Dev G) → AndThen First Next answer old new → GoesOn old new
      by_both answer old new (inl (e, made, is)) = by_first (Err e) old new made
      by_both answer old new (inr (a, middle, made, rest)) = joined old middle new (by_first (Ok a) old middle made) (by_next answer middle new rest)

  by_more : (count : ℕ) (old new : PoolState Dev G) → MakesMore count old new → GoesOn old new
  by_more zero old new same = stays old new same
  by_more (suc count) old new (middle, before, one) = joined old middle new (by_more count old middle before) (by_step step.SyncStep reply.More middle new one)

  by_end : (answer : Result Group PoolError) (old new : PoolState Dev G) → EndsSync answer old new → GoesOn old new
  by_end answer old new ends = joined old ends.middle new (by_more ends.count old ends.middle ends.steps) (by_call step.SyncStep (λ (g : Group). reply.Synced g) answer ends.middle new ends.last)

  module _ (moment : ℕ) where
    abbrev Starts : Result Group PoolError → PoolState Dev G → PoolState Dev G → Type 0
    Starts = Call (step.StartSync moment) (λ (g : Group). reply.Syncing g)

    by_closed : (answer : Result Group PoolError) (old new : PoolState Dev G) → SyncsClosed moment answer old new → GoesOn old new
    by_closed answer old new (marked, middle, mark, rest) =
        joined old middle new (by_call step.MarkQuiesced (λ (g : Group). reply.Quiesced g) marked old middle mark)
        (by_both Starts (by_call (step.StartSync moment) (λ (g : Group). reply.Syncing g)) EndsSync by_end answer middle new rest)

    -- a closed group is synced, if there is one, after the sync that runs
    abbrev EndsFirst : Result (Unit {0}) PoolError → PoolState Dev G → PoolState Dev G → Type 0
    EndsFirst answer old new = If (is_some (shown old).line.syncing) EndsSync answer old new

    abbrev SyncsSecond : Result (Unit {0}) PoolError → PoolState Dev G → PoolState Dev G → Type 0
    SyncsSecond answer old new = If (is_some (shown old).line.middle) (SyncsClosed moment) answer old new

    abbrev Closes : Result Group PoolError → PoolState Dev G → PoolState Dev G → Type 0
    Closes = Call step.CloseGroup (λ (g : Group). reply.Opened g)

    by_last : (answer : Result Group PoolError) (old new : PoolState Dev G) → AndThen Closes (SyncsClosed moment) answer old new → GoesOn old new
    by_last = by_both Closes (by_call step.CloseGroup (λ (g : Group). reply.Opened g)) (SyncsClosed moment) by_closed

    by_second : (answer : Result Group PoolError) (old new : PoolState Dev G) → AndThen SyncsSecond (AndThen Closes (SyncsClosed moment)) answer old new → GoesOn old new
    by_second = by_both SyncsSecond (λ answer old new. by_if (SyncsClosed moment) by_closed (is_some (shown old).line.middle) answer old new) (AndThen Closes (SyncsClosed moment)) by_last

    by_open : (answer : Result Group PoolError) (old new : PoolState Dev G) → SyncsOpen moment answer old new → GoesOn old new
    by_open = by_both EndsFirst (λ answer old new. by_if EndsSync by_end (is_some (shown old).line.syncing) answer old new) (AndThen SyncsSecond (AndThen Closes (SyncsClosed moment))) by_second

    -- so a sync of the open group at the end of a pool leaves a state that ends it too
    pub finished_by : (p : Shared Dev G) (answer : Result Group PoolError) (ended left : PoolState Dev G) (device : Dev) → IsLaterState p ended → SyncsOpen moment answer ended left → device ≡ device_of left → SyncsAtEnd p moment answer device
    finished_by p answer ended left device (last, ends) syncs back =
        let on : IsSeenAfter last left = by_open answer ended left syncs last ends.explains in
        record {
          ended = ended;
          last = last;
          ends = ends;
          left = left;
          syncs = syncs;
          after = on.0;
          onward = on.2;
          leaves = ends_in p left on.0 on.1 (grows_onward (IsTrue G.keeps_model) _ last on.0 ends.onward on.2);
          given_back = back;
        }
