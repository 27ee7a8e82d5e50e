-- What callers take from the device that a serve gives back: what is found of it after a crash.
use Rattle.std.proofs.Common.{◌≡◌, ◌≢◌, [], ◌∷◌, ℕ, List, Ok, false, get_or, inl, inr, refl, subst, sym, true}
use Rattle.std.specs.Prelude.{Bool, IfOk, IfSome, IsOk, IsSome, IsSomeAnd, IsTrue, None, Option, Result, Some, slice_get}
use Rattle.std.proofs.Math.Logic.{∥∥₁_map}
use Rattle.std.proofs.lemmas.Bool.{false≢true}
use Rattle.base.specs.disk.Fairness.{LeavesFairNow}
use Rattle.base.specs.history.Contents.{Contents}
use Rattle.base.specs.history.History.{Entry, kept, replay}
use Rattle.base.specs.history.Past.{Past}
use Rattle.base.specs.kept.LeftDisks.{IsLeft}
use Rattle.base.specs.steps.Explains.{IsLeftBy, MountsToCut}
use Rattle.base.specs.tree.Mount.{MountsTo}
use Rattle.running_pools.specs.LeftDevices.{HasAllOf, HoldsRunUpon, IsLeftUpon}
use Rattle.running_pools.proofs.Cuts.{marked}
use Rattle.command_arguments.specs.declared.arguments.ServeArguments.{ServeArguments}
use Rattle.device_model.specs.declared.device.SectorDevice.{Ghosts}
use Rattle.serving.specs.Inputs.{AnswersFrames, Exchange, Streams, program}
use Rattle.serving.specs.declared.inputs.Ending.{Ending}
use Rattle.serving.specs.declared.inputs.Ending.TheVariants.{Done}
use Rattle.frames.specs.Openings.{bytes_of_opening}
use Rattle.pool_threads.specs.Answers.{state_seen}
use Rattle.pool_threads.specs.Handles.{opened_in, shared_of}
use Rattle.pool_threads.specs.declared.handle.Handle.{Handle}
use Rattle.pool_threads.specs.declared.pool.Pool.{Pool}
use Rattle.read_commands.specs.declared.failure.Failure.{Failure}
use Rattle.serving.specs.Serving.{GivesOrRefuses, ServesAndHolds, opening_of}

-- all that a handle had seen when it had answered the frames is in what each crash leaves
module _ {Dev K : Type 0} (G : Ghosts Dev) (device : Dev) (given : ServeArguments) (old : Streams) (new : K → Streams) (keeps : IsTrue G.keeps_model) (past : Past) (was : IsLeft past (G.disk device)) where
  abbrev MountsAll : Past → Handle Dev G → List ℕ → Type 0
  MountsAll later served image = (c : Contents) × MountsTo image c × (marks : List Bool)
      × ((ordinal : ℕ) (e : Entry) → slice_get (state_seen served).past.entries ordinal ≡ Some e → (slice_get later.entries ordinal ≡ Some e) × (get_or marks ordinal false ≡ true)) × (replay (kept marks later.entries) later.base ≡ Ok c)

  abbrev StaysAll : Handle Dev G → Dev → Type 0
  StaysAll served after = ∥ ((later : Past) × IsLeftBy past later.base × LeavesFairNow (G.disk after) past.created (MountsAll later served)) ∥₁

  abbrev StaysAnswered : Option Dev → Type 0
  StaysAnswered back = (exchanges : List Exchange) × (first served : Handle Dev G) × AnswersFrames program exchanges first served × IsSomeAnd back (StaysAll served)

  mounts_all : (served : Handle Dev G) (after : Dev) (later : Past) → HasAllOf (state_seen served).past later → IsLeftUpon past later (G.disk after) → LeavesFairNow (G.disk after) past.created (MountsAll later served)
  mounts_all served after later has left =
      let safe : LeavesFairNow (G.disk after) past.created (λ image. MountsToCut image later) = subst (λ (t : ℕ). LeavesFairNow (G.disk after) t (λ image. MountsToCut image later)) left.created left.safe in
      record {
        bytes = safe.bytes;
        each = λ image may fair.
            let cut = safe.each image may fair in (
              cut.contents,
              cut.mounts,
              cut.left.marks,
              (λ ordinal e at. ((has ordinal e at).0, marked cut.left.marks later.acknowledged ordinal cut.left.acknowledged (has ordinal e at).1)),
              cut.left.replayed,
            );
      }

  all_stay : (served : Handle Dev G) (back : Option Dev) → IsSome back → IfSome back (HoldsRunUpon G (HasAllOf (state_seen served).past) device) → IsSomeAnd back (StaysAll served)
  all_stay served None some holds = absurd (false≢true some)
  all_stay served (Some d) some holds =
      ∥∥₁_map {B = (later : Past) × IsLeftBy past later.base × LeavesFairNow (G.disk d) past.created (MountsAll later served)} (holds keeps past was) (λ (later, has, left). (later, left.base, mounts_all served d later has left))

  from_serve : (k : K) (back : Option Dev) (pool : Pool Dev G) → IsSome back → (result : Result Ending Failure) → result ≡ Ok Done
      → ServesAndHolds (shared_of pool) (bytes_of_opening (opening_of (opened_in pool))) result old (new k) device back → StaysAnswered back
  from_serve k back pool some result done (inl stops) = absurd (subst (λ (r : Result Ending Failure). IfOk r (λ (e : Ending). e ≢ Done)) done stops.failed refl)
  from_serve k back pool some result done (inr (a, holds)) =
      let well : (Done ≡ a.ending) × IsOk a.synced = subst (λ (r : Result Ending Failure). IfOk r (λ (e : Ending). (e ≡ a.ending) × IsOk a.synced)) done a.well in
      (a.exchanges, a.first, a.serves.served, a.serves.answers, all_stay a.serves.served back some (holds well.1))

  pub answered_stays : (kept : Option K) (back : Option Dev) (status : ℕ) → status ≡ 0 → IsSome kept → IfSome kept (λ k. GivesOrRefuses G device given status old (new k) back) → StaysAnswered back
  answered_stays None back status zero some served = absurd (false≢true some)
  answered_stays (Some k) back status zero some (inl s) = from_serve k back s.pool (s.given_back zero) s.result (s.done zero) s.serves
  answered_stays (Some k) back status zero some (inr r) = absurd (r.stays.failed zero)
