-- What a serve leaves on the device of its pool: all that its handle had seen when it had answered the frames is
-- acknowledged once the pool is synced.
use Rattle.std.proofs.Common.{◌≡◌, ◌++◌, [], ◌∷◌, ℕ, List, Ok, Err, ap, inl, inr, refl, subst, sym, true, ◌∙◌}
use Rattle.std.specs.Prelude.{Bool, IfOk, IfSome, IsOk, IsSome, IsTrue, None, Option, Result, Some, slice_get}
use Rattle.std.proofs.Math.Logic.{∥∥₁_elim, ∥∥₁_map, ∥∥₁_prop}
use Rattle.std.proofs.lemmas.Bool.{false≢true}
use Rattle.base.specs.declared.error.PoolError.{PoolError}
use Rattle.base.specs.declared.names.Group.{Group}
use Rattle.base.specs.declared.names.Owner.{Owner}
use Rattle.base.specs.disk.Disk.{Disk}
use Rattle.base.specs.history.Contents.{Contents}
use Rattle.base.specs.history.History.{Entry}
use Rattle.base.specs.history.Past.{Past, new_past}
use Rattle.base.specs.steps.Exact.{IsBounded}
use Rattle.base.specs.steps.Shown.{Shown}
use Rattle.base.specs.steps.Steps.{State}
use Rattle.base.specs.steps.Tables.{AreTablesExplained, GoesOn}
use Rattle.base.proofs.steps.KeptTables.{new_pools_are_explained}
use Rattle.base.proofs.steps.SeenStates.{at-prefix, grown}
use Rattle.device_model.specs.declared.device.SectorDevice.{Ghosts}
use Rattle.frames.specs.declared.answer.Answer.{Answer}
use Rattle.durable_answers.specs.Durability.{Asks, AsksAll, MakesDurable}
use Rattle.serving.specs.Frames.{AnswersFrame}
use Rattle.serving.specs.Inputs.{AnswersFrames, Exchange, Streams, program}
use Rattle.serving.specs.declared.inputs.Ending.{Ending}
use Rattle.durable_answers.proofs.Along.{along_fsyncs}
use Rattle.running_pools.proofs.Along.{along_syncs}
use Rattle.serving.proofs.Durable.{along_calls}
use Rattle.import_replay.proofs.MountedPools.{group-within}
use Rattle.pool_threads.specs.declared.handle.Handle.{Handle}
use Rattle.pool_threads.specs.declared.handle.LastSeen.{LastSeen}
use Rattle.pool_threads.specs.declared.opened.Opened.{Opened}
use Rattle.pool_threads.specs.declared.pool.Pool.{Pool}
use Rattle.pool_threads.specs.declared.shared.Shared.{Shared}
use Rattle.pool_threads.specs.Answers.{state_seen}
use Rattle.pool_threads.specs.Handles.{IsLeftBehind, IsNewHandle, OpensBehind, ShowsImport, WasOf, opened_in, opening_view, shared_of, view_seen}
use Rattle.pool_threads.specs.Views.{IsFollowed, SeenPool, since, viewed_state}
use Rattle.pool_threads.specs.Waits.{AreDurable, SyncsPool}
use Rattle.pool_threads.proofs.Along.{GoesAlong, along_made, along_on, along_same}
use Rattle.command_arguments.specs.declared.arguments.ServeArguments.{ServeArguments}
use Rattle.running_pools.specs.LeftDevices.{ClosesAfter, HasAllOf, HoldsRunUpon}
use Rattle.running_pools.proofs.LeftDevices.{ComesTo, IsSoOn, left_upon, was_of}
use Rattle.running_pools.proofs.Sounds.{IsSound, acknowledged_now, durable_after, sound_on}
use Rattle.serving.specs.Serving.{AnswersInput, OpensOn, ServesAndCloses, ServesAndHolds, ServesAndLeaves}

-- a view of a pool that was just imported is sound, if its contents are within the limits
sound_anew : (moment dirty_max : ℕ) (old : Disk) (told : Opened) (v : SeenPool) → ShowsImport moment old told v → v.past ≡ new_past v.past.base v.past.created dirty_max → v.shown.contents ≡ v.past.base → v.shown.dirty_max ≡ v.past.dirty_max
    → IsBounded v.shown.contents → AreTablesExplained v.shown v.past
sound_anew moment dirty_max old told v it anew shows limit bounded =
    let r = it.replayed in
    let i = r.imported in
    let s : Shown = v.shown in
    let same = it.shown in
    let contents : r.contents ≡ v.past.base = sym i.contents_are ∙ ap (λ (x : Shown). x.contents) (sym same) ∙ shows in
    let most : it.mounted.dirty_max ≡ dirty_max = sym i.limit ∙ ap (λ (x : Shown). x.dirty_max) (sym same) ∙ limit ∙ ap (λ (p : Past). p.dirty_max) anew in
    let within : IsBounded r.contents = subst IsBounded (ap (λ (x : Shown). x.contents) same ∙ i.contents_are) bounded in
    let x = new_pools_are_explained r.u _ r.contents v.past.created it.mounted.dirty_max _ i within (group-within r.u.group r.u.import_number r.within) in
    let y : AreTablesExplained v.shown (new_past r.contents v.past.created it.mounted.dirty_max) = subst (λ (q : Shown). AreTablesExplained q (new_past r.contents v.past.created it.mounted.dirty_max)) (sym same) x in
    let z : AreTablesExplained v.shown (new_past v.past.base v.past.created it.mounted.dirty_max) = subst (λ (c : Contents). AreTablesExplained v.shown (new_past c v.past.created it.mounted.dirty_max)) contents y in
    subst (λ (p : Past). AreTablesExplained v.shown p) (sym anew) (subst (λ (d : ℕ). AreTablesExplained v.shown (new_past v.past.base v.past.created d)) most z)

module _ {Dev : Type 0} {G : Ghosts Dev} where
  along_asked : (e : PoolError) (m a : Answer) (old new : Handle Dev G) → Asks e m a old new → GoesAlong old new
  along_asked e m a old new (inl (none, same, still)) = along_same old new still
  along_asked e m a old new (inr (receipt, is, inl (same, made))) = along_made made
  along_asked e m a old new (inr (receipt, is, inr (other, made))) = along_made made

  along_all_asked : (e : PoolError) (ms answers : List Answer) (old new : Handle Dev G) → AsksAll e ms answers old new → GoesAlong old new
  along_all_asked e [] [] old new same = along_same old new same
  along_all_asked e (m ∷ ms) (a ∷ others) old new (next, asked, rest) = along_on old next new (along_asked e m a old next asked) (along_all_asked e ms others next new rest)
  along_all_asked e [] (a ∷ others) old new h = absurd h
  along_all_asked e (m ∷ ms) [] old new h = absurd h

  along_made_durable : (made answers : List Answer) (old new : Handle Dev G) → MakesDurable made answers old new → GoesAlong old new
  along_made_durable made answers old new (inl (none, same, still)) = along_same old new still
  along_made_durable made answers old new (inr (awaits, inl (same, flushes))) = along_fsyncs (Ok tt) old new flushes.0
  along_made_durable made answers old new (inr (awaits, inr (e, flushed, refused, asked))) = along_on old flushed new (along_fsyncs (Err e) old flushed refused.0) (along_all_asked e made answers flushed new asked)

  along_frame : (bytes answer : List ℕ) (old new : Handle Dev G) → AnswersFrame program bytes answer old new → GoesAlong old new
  along_frame bytes answer old new (inl refuses) = along_same old new refuses.unchanged
  along_frame bytes answer old new (inr a) = along_on old a.makes.middle new (along_calls program a.requests a.makes.made old a.makes.middle a.makes.makes) (along_made_durable a.makes.made a.answers a.makes.middle new a.makes.flushes)

  -- a handle that answers frames goes along
  along_frames : (xs : List Exchange) (old new : Handle Dev G) → AnswersFrames program xs old new → GoesAlong old new
  along_frames [] old new same = along_same old new same
  along_frames (x ∷ xs) old new (next, one, rest) = along_on old next new (along_frame x.frame x.answer old next one) (along_frames xs next new rest)

  -- what is durable once the pool is synced is acknowledged from then on
  module _ (served last : Handle Dev G) (group : Group) (sound : IsSound (view_seen served)) (syncs : SyncsPool (Ok group) served last) where
    all_so : ∥ IsSoOn (HasAllOf (state_seen served).past) last ∥₁
    all_so =
        let along = along_syncs (Ok group) served last syncs in
        ∥∥₁_elim (sound_on (IsTrue G.keeps_model) (view_seen served) (view_seen last) along.onward sound) ∥∥₁_prop (λ x.
        ∥∥₁_elim along.onward.goes_on ∥∥₁_prop (λ run.
        ∥∥₁_map {B = IsSoOn (HasAllOf (state_seen served).past) last} (durable_after group served last sound syncs) (λ durable t created on ordinal e at.
        let here = at-prefix (state_seen served).past.entries (state_seen last).past.entries ordinal e (grown (state_seen served) (state_seen last) run).entries at in (
          at-prefix (state_seen last).past.entries t.past.entries ordinal e (grown (state_seen last) t on).entries here,
          (grown (state_seen last) t on).acknowledged ordinal (acknowledged_now ordinal e (state_seen last) x here (durable ordinal e at)),
        ))))

  -- the opening view of a pool that follows the crash rule is sound
  module _ (device : Dev) (given : ServeArguments) (pool : Pool Dev G) (opens : OpensOn G device given pool) where
    opening_sound : IsTrue G.keeps_model → (created : ℕ) → IsFollowed (opening_view (shared_of pool)).rule created → IsSound (opening_view (shared_of pool))
    opening_sound keeps created follows =
        let v : SeenPool = opening_view (shared_of pool) in
        ∥∥₁_map {B = AreTablesExplained v.shown v.past} (opens.opens.explained keeps created follows) (λ x.
        sound_anew given.moment given.dirty_max (G.disk device) (opened_in pool) v (opens.shown keeps) opens.opens.anew opens.opens.shows x.present.exact.charges.limit x.present.exact.bounded)

    module _ {E : Type 0} {opened : List ℕ} {result : Result Ending E} {old new : Streams} (a : AnswersInput (shared_of pool) opened result old new) where
      synced_well : (synced : Result Group PoolError) → IsOk synced → a.synced ≡ synced → ComesTo (HasAllOf (state_seen a.serves.served).past) (shared_of pool) a.last
      synced_well (Err e) is same = absurd (false≢true is)
      synced_well (Ok group) is same = λ keeps created follows.
          let first : IsSound (view_seen a.first) = sound_on (IsTrue G.keeps_model) (opening_view (shared_of pool)) (view_seen a.first) a.is_new.onward (opening_sound keeps created follows) in
          let served : IsSound (view_seen a.serves.served) = sound_on (IsTrue G.keeps_model) (view_seen a.first) (view_seen a.serves.served) (along_frames a.exchanges a.first a.serves.served a.serves.answers).onward first in
          all_so a.serves.served a.last group served (subst (λ r. SyncsPool r a.serves.served a.last) same a.serves.syncs)

      pub holds_answered : (back : Option Dev) → IfSome back (λ d. (left : LastSeen Dev G) × IsLeftBehind a.last left × ClosesAfter (shared_of pool) left d) → IsOk a.synced
          → IfSome back (HoldsRunUpon G (HasAllOf (state_seen a.serves.served).past) device)
      holds_answered None closes synced = tt
      holds_answered (Some d) (left, behind, closes) synced =
          left_upon (shared_of pool) (G.disk device) given.dirty_max opens.opens a.last left behind d closes (HasAllOf (state_seen a.serves.served).past) (synced_well a.synced synced refl)

    pub closed_holds : {E : Type 0} (opened : List ℕ) (result : Result Ending E) (old new : Streams) (back : Option Dev) → ServesAndCloses (shared_of pool) opened result old new back → ServesAndHolds (shared_of pool) opened result old new device back
    closed_holds opened result old new back (inl stops) = inl stops
    closed_holds opened result old new back (inr (a, closes)) = inr (a, holds_answered a back closes)

  -- a handle that served was one of its pool
  pub served_was_of : {E : Type 0} (p : Shared Dev G) (opened : List ℕ) (result : Result Ending E) (old new : Streams) (left : LastSeen Dev G) → ServesAndLeaves p opened result old new left → WasOf p left
  served_was_of p opened result old new left (inl (stops, (h, is_new, behind))) = was_of p h h left is_new (along_same h h refl) behind
  served_was_of p opened result old new left (inr (a, behind)) =
      was_of p a.first a.last left a.is_new (along_on a.first a.serves.served a.last (along_frames a.exchanges a.first a.serves.served a.serves.answers) (along_syncs a.synced a.serves.served a.last a.serves.syncs)) behind
