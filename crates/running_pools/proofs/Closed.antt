-- What callers take from a pool that was opened and closed.
use Rattle.std.proofs.Common.{◌≡◌, [], ℕ, List, Ok, ap, subst, sym, ◌∙◌}
use Rattle.std.specs.Prelude.{IfSome, IsTrue, None, Option, Some, slice_get}
use Rattle.std.proofs.Math.Logic.{∥∥₁_map}
use Rattle.base.specs.history.Contents.{Contents}
use Rattle.base.specs.history.History.{Entry, apply_all}
use Rattle.base.specs.history.Past.{Past}
use Rattle.base.specs.history.Sequences.{in_turn}
use Rattle.base.specs.kept.LeftDisks.{IsLeft}
use Rattle.base.specs.steps.Explains.{IsLeftBy}
use Rattle.base.proofs.common.KeptLists.{none_at}
use Rattle.device_model.specs.declared.device.SectorDevice.{Ghosts}
use Rattle.pool_threads.specs.declared.handle.LastSeen.{LastSeen}
use Rattle.pool_threads.specs.declared.shared.Shared.{Shared}
use Rattle.pool_threads.specs.Handles.{IsFirstSeen, OpensBehind, opening_view}
use Rattle.pool_threads.specs.Views.{SeenPool, since}
use Rattle.word_lock.specs.Seats.{seen}
use Rattle.running_pools.specs.LeftDevices.{Closes, ClosesAfter, HoldsContents}
use Rattle.running_pools.proofs.Adds.{ops_of}
use Rattle.running_pools.proofs.Cuts.{replays_all}
use Rattle.running_pools.proofs.LeftDevices.{left_by}
use Rattle.running_pools.proofs.Sounds.{AllAcknowledged}

-- a run without entries leaves what it began with
nothing_left : (past : Past) → past.entries ≡ [] → (c : Contents) → IsLeftBy past c → c ≡ past.base
nothing_left past none c left =
    let known : AllAcknowledged past = λ ordinal e at. absurd (none_at ordinal e (subst (λ (l : List Entry). slice_get l ordinal ≡ Some e) none at)) in
    let ran : in_turn apply_all [] past.base ≡ Ok c = subst (λ (l : List Entry). in_turn apply_all (ops_of l) past.base ≡ Ok c) none (replays_all past known c left) in
    let is : c ≡ past.base = cc in is

module _ {Dev : Type 0} {G : Ghosts Dev} (p : Shared Dev G) (device : Dev) (dirty_max : ℕ) (opens : OpensBehind (IsTrue G.keeps_model) (G.disk device) dirty_max (opening_view p)) where
  pub same_contents : (l : LastSeen Dev G) → IsFirstSeen p l → (after : Dev) → ClosesAfter p l after → HoldsContents G (λ base c. c ≡ base) device after
  same_contents l first after closes keeps =
      let v : SeenPool = closes.ends.last in
      let same : v ≡ opening_view p = closes.ends.alone first.number ∙ first.seen in
      let none : v.past.entries ≡ [] = ap (λ (w : SeenPool). w.past.entries) same ∙ ap (λ (q : Past). q.entries) opens.anew in
      left_by p (G.disk device) dirty_max opens closes.state v closes.ends.ends after closes.device_is (λ later. (c : Contents) → IsLeftBy later c → c ≡ later.base) keeps
      (λ created follows. ∣ (λ c is. nothing_left (since created v.past) none c is) ∣₁)

  pub upon_closed : (after : Option Dev) → IfSome after (Closes p) → IsTrue G.keeps_model → (past : Past) → IsLeft past (G.disk device) → IfSome after (λ d. ∥ ((later : Past) × IsLeftBy past later.base × IsLeft later (G.disk d)) ∥₁)
  upon_closed None closes keeps past was = tt
  upon_closed (Some d) (s, (v, ends), device_is) keeps past was =
      ∥∥₁_map {B = (later : Past) × IsLeftBy past later.base × IsLeft later (G.disk d)} (left_by p (G.disk device) dirty_max opens s v ends d device_is (λ later. Unit {0}) keeps (λ created follows. ∣ tt ∣₁) past was)
      (λ (later, so, left). (later, left.base, left.left))
