-- What a closed pool leaves on its device, by what its handle had seen as it left.
use Rattle.std.proofs.Common.{◌≡◌, ◌++◌, [], ℕ, List, Ok, ap, inr, refl, subst, sym, ◌∙◌}
use Rattle.std.specs.Prelude.{All, IfSome, IsTrue, None, Option, Some}
use Rattle.std.proofs.Math.Logic.{∥∥₁_elim, ∥∥₁_map, ∥∥₁_prop}
use Rattle.base.specs.declared.operation.Op.{Op}
use Rattle.base.specs.disk.Disk.{Disk}
use Rattle.base.specs.history.Contents.{Contents}
use Rattle.base.specs.history.History.{Entry, apply_all}
use Rattle.base.specs.history.Past.{Past, new_past}
use Rattle.base.specs.history.Sequences.{in_turn}
use Rattle.base.specs.kept.LeftDisks.{IsLeft}
use Rattle.base.specs.steps.Explains.{AreSafe, IsLeftBy}
use Rattle.base.specs.steps.Steps.{State}
use Rattle.base.specs.steps.Tables.{GoesOn}
use Rattle.base.proofs.steps.SeenStates.{grown}
use Rattle.device_model.specs.declared.device.SectorDevice.{Ghosts}
use Rattle.pool_core.specs.declared.state.PoolState.{PoolState}
use Rattle.pool_core.specs.States.{device_of}
use Rattle.pool_threads.specs.declared.handle.Handle.{Handle}
use Rattle.pool_threads.specs.declared.handle.LastSeen.{LastSeen}
use Rattle.pool_threads.specs.declared.shared.Shared.{Shared}
use Rattle.pool_threads.specs.Answers.{state_seen}
use Rattle.pool_threads.specs.Handles.{EndsIn, IsBackIn, IsFirstSeen, IsLeftBehind, IsNewHandle, OpensBehind, WasOf, kin_left, kin_of, opening_view, view_seen}
use Rattle.pool_threads.specs.Views.{CrashRule, GrowsTo, IsFollowed, SeenPool, since, viewed_state}
use Rattle.pool_threads.proofs.Along.{GoesAlong}
use Rattle.word_lock.specs.Seats.{kin, seat_table, seen, taken, turns}
use Rattle.running_pools.specs.LeftDevices.{Closes, ClosesAfter, HoldsContents, IsLeftUpon, IsOnlyHandle, LeavesContents, LeavesRunUpon, LosesNothing}
use Rattle.running_pools.proofs.Adds.{Adds, ops_of, past_seen}
use Rattle.running_pools.proofs.Cuts.{Preserves, kept_by_cut, replays_all}
use Rattle.running_pools.proofs.Sounds.{AllAcknowledged}

-- what follows of what was found follows of what an import finds
pub found_so : (A : Type 0) (P Q : Contents → Contents → Type 0) → ∥ A ∥₁ → (A → (base c : Contents) → P base c → Q base c) → (old new : Disk) → LeavesContents P old new → LeavesContents Q old new
found_so A P Q given each old new leaves = λ past was.
    ∥∥₁_elim given ∥∥₁_prop (λ a.
    ∥∥₁_map {B = (later : Past) × ((c : Contents) → IsLeftBy later c → Q later.base c) × IsLeftUpon past later new} (leaves past was) (λ (later, so, left). (later, (λ c is. each a later.base c (so c is)), left)))

module _ {Dev : Type 0} {G : Ghosts Dev} where
  -- so it is of each past that goes on from what the handle had seen
  abbrev pub IsSoOn : (Past → Type 0) → Handle Dev G → Type 0
  IsSoOn P h = (t : State) (created : ℕ) → GoesOn (state_seen h) t → P (since created t.past)

  -- so it is of those that go on from there, in a run that follows the crash rule since this create
  abbrev pub ComesTo : (Past → Type 0) → Shared Dev G → Handle Dev G → Type 0
  ComesTo P p h = IsTrue G.keeps_model → (created : ℕ) → IsFollowed (opening_view p).rule created → ∥ IsSoOn P h ∥₁

  -- The pool was opened behind a disk, and ended. A run upon what that disk held has left its device.
  module _ (p : Shared Dev G) (old : Disk) (dirty_max : ℕ) (opens : OpensBehind (IsTrue G.keeps_model) old dirty_max (opening_view p)) (s : PoolState Dev G) (v : SeenPool) (ends : EndsIn p s v) (device : Dev) (device_is : device ≡ device_of s) where
    pub left_by : (P : Past → Type 0) → (keeps : IsTrue G.keeps_model) → ((created : ℕ) → IsFollowed (opening_view p).rule created → ∥ P (since created v.past) ∥₁) → LeavesRunUpon P old (G.disk device)
    left_by P keeps so past was =
        let created : ℕ = past.created in
        let later : Past = since created v.past in
        let follows : IsFollowed (opening_view p).rule created = subst (λ (r : CrashRule). IsFollowed r created) (sym opens.rule) ∣ (past, refl, was) ∣₁ in
        ∥∥₁_elim (ends.cuts keeps created follows) ∥∥₁_prop (λ cuts.
        ∥∥₁_elim ends.onward.goes_on ∥∥₁_prop (λ run.
        ∥∥₁_map {B = (late : Past) × P late × IsLeftUpon past late (G.disk device)} (so created follows) (λ is. (
          later,
          is,
          record {
            created = refl;
            base = subst (λ (c : Contents). IsLeftBy past c) (sym (grown (viewed_state (opening_view p)) (viewed_state v) run).base) (opens.left keeps past was);
            safe = subst (λ (d : Dev). AreSafe (G.disk d) later) (sym device_is) cuts.safe;
            left = subst (λ (d : Dev). IsLeft later (G.disk d)) (sym device_is) cuts.left;
          },
        ))))

  -- so it is after what a handle had seen as it left
  pub left_upon : (p : Shared Dev G) (old : Disk) (dirty_max : ℕ) → OpensBehind (IsTrue G.keeps_model) old dirty_max (opening_view p) → (h : Handle Dev G) (l : LastSeen Dev G) → IsLeftBehind h l → (device : Dev) → ClosesAfter p l device
      → (P : Past → Type 0) → ComesTo P p h → IsTrue G.keeps_model → LeavesRunUpon P old (G.disk device)
  left_upon p old dirty_max opens h l behind device closes P comes keeps =
      let v : SeenPool = closes.ends.last in
      let onward : GrowsTo (IsTrue G.keeps_model) (view_seen h) v = subst (λ s. GrowsTo (IsTrue G.keeps_model) (seen s) v) behind closes.ends.onward in
      left_by p old dirty_max opens closes.state v closes.ends.ends device closes.device_is P keeps (λ created follows.
      ∥∥₁_elim onward.goes_on ∥∥₁_prop (λ on.
      ∥∥₁_map {B = P (since created v.past)} (comes keeps created follows) (λ each. each (viewed_state v) created on)))

  -- what comes back, if it does
  pub closed_still : (p : Shared Dev G) (device : Dev) (dirty_max : ℕ) → OpensBehind (IsTrue G.keeps_model) (G.disk device) dirty_max (opening_view p) → (after : Option Dev) → IfSome after (Closes p) → IfSome after (LosesNothing G device)
  closed_still p device dirty_max opens None closes = tt
  closed_still p device dirty_max opens (Some d) (s, (v, ends), device_is) =
      λ keeps. inr (left_by p (G.disk device) dirty_max opens s v ends d device_is (λ later. (c : Contents) → IsLeftBy later c → Unit {0}) keeps (λ created follows. ∣ (λ c is. tt) ∣₁))

  -- a pool that was closed after what a handle had seen was closed
  pub just_closes : (p : Shared Dev G) (l : LastSeen Dev G) (device : Dev) → ClosesAfter p l device → Closes p device
  just_closes p l device c = (c.state, (c.ends.last, c.ends.ends), c.device_is)

  -- a handle that left its pool was one of it
  pub was_of : (p : Shared Dev G) (first last : Handle Dev G) (l : LastSeen Dev G) → IsNewHandle p first → GoesAlong first last → IsLeftBehind last l → WasOf p l
  was_of p first last l is_new along behind = ap (λ s. seat_table s) behind ∙ along.same_pool.0 ∙ is_new.of

  -- the first handle of a pool that was opened for one
  pub only_handle : (p : Shared Dev G) (l : LastSeen Dev G) (h : Handle Dev G) → IsFirstSeen p l → IsBackIn p l h → IsOnlyHandle p h
  only_handle p l h f back = record {
    of = ap (λ s. seat_table s) back.seat_is ∙ f.of;
    moment = back.moment;
    seen = ap (λ s. seen s) back.seat_is ∙ f.seen;
    no_turn = ap (λ s. turns s) back.seat_is ∙ f.no_turn;
    none_taken = ap (λ s. taken s) back.seat_is ∙ f.none_taken;
    number = ap (λ s. kin s) back.seat_is ∙ f.number;
  }

  pub only_was_of : (p : Shared Dev G) (first last : Handle Dev G) (l : LastSeen Dev G) → IsOnlyHandle p first → GoesAlong first last → IsLeftBehind last l → WasOf p l
  only_was_of p first last l only along behind = ap (λ s. seat_table s) behind ∙ along.same_pool.0 ∙ only.of

  pub only_number : (last : Handle Dev G) (l : LastSeen Dev G) → kin_of last ≡ 0 → IsLeftBehind last l → kin_left l ≡ 0
  only_number last l only behind = ap (λ s. kin s) behind ∙ only

  -- The only handle of a pool added these entries and no others. So its run has just these, upon what the disk held.
  module _ (p : Shared Dev G) (device : Dev) (dirty_max : ℕ) (opens : OpensBehind (IsTrue G.keeps_model) (G.disk device) dirty_max (opening_view p)) (first last : Handle Dev G) (only : IsOnlyHandle p first) (l : LastSeen Dev G) (number : kin_of last ≡ 0) (behind : IsLeftBehind last l) where
    from_none : (all : List (List Op)) (past : Past) → Adds all (past_seen first) past → ops_of past.entries ≡ all
    from_none all past adds =
        let none : (past_seen first).entries ≡ [] = ap (λ (v : SeenPool). v.past.entries) only.seen ∙ ap (λ (q : Past). q.entries) opens.anew in
        ap ops_of adds.entries ∙ ap (λ (l : List Entry). ops_of (l ++ adds.added)) none ∙ adds.ops

    pub alone_upon : (P : Past → Type 0) → ((created : ℕ) → ∥ P (since created (past_seen last)) ∥₁) → (after : Dev) → ClosesAfter p l after → IsTrue G.keeps_model → LeavesRunUpon P (G.disk device) (G.disk after)
    alone_upon P so after closes keeps =
        let v : SeenPool = closes.ends.last in
        let same : v ≡ view_seen last = closes.ends.alone (only_number last l number behind) ∙ ap (λ s. seen s) behind in
        left_by p (G.disk device) dirty_max opens closes.state v closes.ends.ends after closes.device_is P keeps (λ created follows. subst (λ (w : SeenPool). ∥ P (since created w.past) ∥₁) (sym same) (so created))

    -- if all are acknowledged, an import finds just what they leave of what the pool was opened with
    abbrev Leaves : List (List Op) → Contents → Contents → Type 0
    Leaves all base c = (base ≡ (opening_view p).past.base) × (in_turn apply_all all base ≡ Ok c)

    pub alone_leaves : (all : List (List Op)) → ∥ Adds all (past_seen first) (past_seen last) ∥₁ → ∥ AllAcknowledged (past_seen last) ∥₁ → (after : Dev) → ClosesAfter p l after
        → HoldsContents G (λ base c. (base ≡ (opening_view p).past.base) × (in_turn apply_all all base ≡ Ok c)) device after
    alone_leaves all adds known after closes keeps =
        alone_upon (λ later. (c : Contents) → IsLeftBy later c → Leaves all later.base c) (λ created.
        ∥∥₁_elim adds ∥∥₁_prop (λ a.
        ∥∥₁_map {B = (c : Contents) → IsLeftBy (since created (past_seen last)) c → Leaves all (past_seen last).base c} known (λ k c is. (
          a.base ∙ ap (λ (v : SeenPool). v.past.base) only.seen,
          subst (λ (ops : List (List Op)). in_turn apply_all ops (past_seen last).base ≡ Ok c) (from_none all (past_seen last) a) (replays_all (since created (past_seen last)) k c is),
        )))) after closes keeps

    -- what each of them keeps is kept in whatever an import finds
    pub alone_keeps : (Q : Contents → Contents → Type 0) → ((c : Contents) → Q c c) → ((a b c : Contents) → Q a b → Q b c → Q a c) → (all : List (List Op)) → All (Preserves Q) all → ∥ Adds all (past_seen first) (past_seen last) ∥₁
        → (after : Dev) → ClosesAfter p l after → HoldsContents G Q device after
    alone_keeps Q same on all each adds after closes keeps =
        alone_upon (λ later. (c : Contents) → IsLeftBy later c → Q later.base c) (λ created.
        ∥∥₁_map {B = (c : Contents) → IsLeftBy (since created (past_seen last)) c → Q (past_seen last).base c} adds (λ a c is.
        kept_by_cut Q same on (since created (past_seen last)) (subst (λ (ops : List (List Op)). All (Preserves Q) ops) (sym (from_none all (past_seen last) a)) each) c is)) after closes keeps
