-- What a power failure leaves of the transactions that the only handle of a pool made: the first ones.
use Rattle.std.proofs.Common.{◌≡◌, ◌≤◌, ◌++◌, ◌∷◌, [], ℕ, zero, suc, List, Ok, ap, append-nil, length, refl, subst, sym, take, ◌∙◌}
use Rattle.std.specs.Prelude.{IsTrue, Result}
use Rattle.std.proofs.Math.Logic.{∥∥₁_elim, ∥∥₁_map, ∥∥₁_prop}
use Rattle.std.proofs.lemmas.List.{length-map}
use Rattle.base.specs.declared.error.PoolError.{PoolError}
use Rattle.base.specs.declared.operation.Op.{Op}
use Rattle.base.specs.disk.Disk.{Disk, Moment, disk_size}
use Rattle.base.specs.disk.Fairness.{LeavesFair}
use Rattle.base.specs.history.Contents.{Contents}
use Rattle.base.specs.history.History.{Entry, apply_all, replay, run}
use Rattle.base.specs.history.Past.{Past}
use Rattle.base.specs.history.Sequences.{and_then, in_turn}
use Rattle.base.specs.kept.LeftDisks.{IsLeft}
use Rattle.base.proofs.common.Sequences.{parted}
use Rattle.base.proofs.disk.Moments.{weaker}
use Rattle.command_fronts.specs.CommandFronts.{LeavesFirst, MountsAfterFirst}
use Rattle.device_model.specs.declared.device.SectorDevice.{Ghosts}
use Rattle.fronts.specs.Fronts.{MountsToFront}
use Rattle.fronts.specs.RisingPools.{CommitsNothing, GoesOnRising, LeavesFrontsBetween, MakesTransactions, RisesAlone}
use Rattle.fronts.specs.RisingPools.CommitsNothing.{by_no_step}
use Rattle.fronts.proofs.RisingCalls.{calls_go_on_rising, first_handles_rise, other_calls_go_on_rising, transacts_go_on_rising}
use Rattle.pool_threads.specs.declared.handle.Handle.{Handle}
use Rattle.pool_threads.specs.declared.shared.Shared.{Shared}
use Rattle.pool_threads.specs.Handles.{OpensBehind, opening_view, view_seen}
use Rattle.pool_threads.specs.Views.{CrashRule, IsFollowed, SeenPool, past_between}
use Rattle.running_pools.specs.LeftDevices.{IsOnlyHandle}
use Rattle.running_pools.proofs.Adds.{Adds, AddsAlone, alone_on, alone_same, ops_of, past_seen}

-- the first entries of a replay are the first of their operations
ran_first : (k : ℕ) (es : List Entry) (base c : Contents) → replay (take k es) base ≡ Ok c → in_turn apply_all (take k (ops_of es)) base ≡ Ok c
ran_first zero es base c h = h
ran_first (suc k) [] base c h = h
ran_first (suc k) (e ∷ es) base c h =
    let p = parted (run e base) (in_turn run (take k es)) c h in
    ap (λ (r : Result Contents PoolError). and_then r (in_turn apply_all (take k (ops_of es)))) p.1 ∙ ran_first k es p.0 c p.2

module _ {Dev : Type 0} {G : Ghosts Dev} where
  -- The handle goes on rising, and adds just these transactions, if it is the only one of its pool.
  pub record Does (all : List (List Op)) (old new : Handle Dev G) : Type 0 where
    pub goes : RisesAlone old → GoesOnRising old new
    pub adds : AddsAlone all old new

  pub does_on : (xs ys : List (List Op)) (old now new : Handle Dev G) → Does xs old now → Does ys now new → Does (xs ++ ys) old new
  does_on xs ys old now new first later = record {
    goes = λ x. let one = first.goes x in calls_go_on_rising old now new one (later.goes one.after);
    adds = alone_on xs ys old now new first.adds later.adds;
  }

  pub does_then_none : (xs : List (List Op)) (old now new : Handle Dev G) → Does xs old now → Does [] now new → Does xs old new
  does_then_none xs old now new first later = subst (λ (all : List (List Op)). Does all old new) (append-nil xs) (does_on xs [] old now new first later)

  pub does_transact : (all : List (List Op)) (old new : Handle Dev G) → MakesTransactions old new → AddsAlone all old new → Does all old new
  does_transact all old new made adds = record { goes = λ x. transacts_go_on_rising old new made x; adds = adds }

  pub does_nothing : (old new : Handle Dev G) → CommitsNothing old new → AddsAlone [] old new → Does [] old new
  does_nothing old new made adds = record { goes = λ x. other_calls_go_on_rising old new made x; adds = adds }

  pub does_same : (old new : Handle Dev G) → new ≡ old → Does [] old new
  does_same old new same = does_nothing old new (by_no_step same) (alone_same old new same)

  -- So a crash at any moment of a pool that was opened for this handle leaves the first of them.
  module _ (p : Shared Dev G) (old : Disk) (dirty_max : ℕ) (opens : OpensBehind (IsTrue G.keeps_model) old dirty_max (opening_view p)) (first last : Handle Dev G) (only : IsOnlyHandle p first) (all : List (List Op)) (does : Does all first last) where
    goes : GoesOnRising first last
    goes = does.goes (first_handles_rise p old dirty_max first opens only.number only.seen)

    no_entries : (past_seen first).entries ≡ []
    no_entries = ap (λ (v : SeenPool). v.past.entries) only.seen ∙ ap (λ (q : Past). q.entries) opens.anew

    module _ (a : Adds all (past_seen first) (past_seen last)) where
      entries_are : ops_of (past_seen last).entries ≡ all
      entries_are = ap ops_of a.entries ∙ ap (λ (es : List Entry). ops_of (es ++ a.added)) no_entries ∙ a.ops

      base_is : (past_seen last).base ≡ (opening_view p).past.base
      base_is = a.base ∙ ap (λ (v : SeenPool). v.past.base) only.seen

      so_long : length (past_seen last).entries ≡ length all
      so_long = sym (length-map (past_seen last).entries (λ (e : Entry). e.ops)) ∙ ap (λ (l : List (List Op)). length l) entries_are

      front_first : (created : ℕ) (image : List ℕ) → MountsToFront image (past_between created (opening_view p) (view_seen last)) → MountsAfterFirst all (opening_view p).past.base image
      front_first created image m = record {
        contents = m.contents;
        after = record {
          count = m.left.count;
          within = subst (λ (n : ℕ). m.left.count ≤ n) so_long m.left.within;
          ran = subst (λ (b : Contents). in_turn apply_all (take m.left.count all) b ≡ Ok m.contents) base_is
              (subst (λ (l : List (List Op)). in_turn apply_all (take m.left.count l) (past_seen last).base ≡ Ok m.contents) entries_are
              (ran_first m.left.count (past_seen last).entries (past_seen last).base m.contents m.left.replayed));
        };
        mounts = m.mounts;
      }

      first_fair : (size created : ℕ) (m : Moment) → LeavesFair size created (λ image. MountsToFront image (past_between created (opening_view p) (view_seen last))) m → LeavesFair size created (MountsAfterFirst all (opening_view p).past.base) m
      first_fair size created m here = record { bytes = here.bytes; each = λ image may fair. front_first created image (here.each image may fair) }

    pub leaves_first : IsTrue G.keeps_model → (past : Past) → IsLeft past old → ∥ LeavesFirst all p last past.created ∥₁
    leaves_first keeps past was =
        let created : ℕ = past.created in
        let size : ℕ = disk_size (opening_view p).disk in
        let opened : IsFollowed (opening_view p).rule created = subst (λ (r : CrashRule). IsFollowed r created) (sym opens.rule) ∣ (past, refl, was) ∣₁ in
        let follows : IsFollowed (view_seen first).rule created = subst (λ (v : SeenPool). IsFollowed v.rule created) (sym only.seen) opened in
        ∥∥₁_elim (does.adds only.number).1 ∥∥₁_prop (λ a.
        ∥∥₁_map {B = LeavesFirst all p last created} (goes.between keeps created follows) (λ between.
        let here : LeavesFrontsBetween created (opening_view p) (view_seen last) = subst (λ (v : SeenPool). LeavesFrontsBetween created v (view_seen last)) only.seen between in
        weaker (LeavesFair size created (λ image. MountsToFront image (past_between created (opening_view p) (view_seen last)))) (LeavesFair size created (MountsAfterFirst all (opening_view p).past.base)) (opening_view p).disk (view_seen last).disk
        (first_fair a size created) here))
