-- What the new pool's device holds after a copy: an import finds what the copy's transactions make of an empty pool.
use Rattle.std.proofs.Common.{◌≡◌, ◌∷◌, [], ℕ, suc, List, Ok, Err, ap, append-nil, arith, length, refl, subst, ◌∙◌}
use Rattle.std.specs.Prelude.{Bool, IfOk, IsTrue, Option, Result, Some, slice_get}
use Rattle.std.specs.List.{flat_map}
use Rattle.std.proofs.Math.Logic.{∥∥₁_elim, ∥∥₁_map, ∥∥₁_prop}
use Rattle.base.specs.declared.names.Group.{Group}
use Rattle.base.specs.declared.operation.Op.{Op}
use Rattle.base.specs.disk.Disk.{Disk}
use Rattle.base.specs.history.Contents.{Contents}
use Rattle.base.specs.history.History.{Entry, apply_all}
use Rattle.base.specs.history.Past.{Past, new_past}
use Rattle.base.specs.history.Sequences.{in_turn}
use Rattle.base.specs.kept.LeftDisks.{IsLeft}
use Rattle.base.specs.steps.Explains.{AreSafe, IsLeftBy}
use Rattle.base.proofs.common.KeptLists.{none_at}
use Rattle.running_pools.specs.LeftDevices.{ClosesAfter, IsOnlyHandle}
use Rattle.running_pools.proofs.Adds.{AddsAlone, alone_on, alone_same, ops_of, past_seen, same_entries, synced_alone, transacted_alone}
use Rattle.running_pools.proofs.Cuts.{replays_all}
use Rattle.running_pools.proofs.LeftDevices.{alone_leaves}
use Rattle.running_pools.proofs.Sounds.{AllAcknowledged, IsSound, all_acknowledged, durable_after, sound_on}
use Rattle.running_pools.specs.Commits.{command_owner}
use Rattle.running_pools.proofs.Commits.{sound_first}
use Rattle.device_model.specs.declared.device.SectorDevice.{Ghosts}
use Rattle.running_pools.proofs.Along.{along_syncs}
use Rattle.import_replay.specs.OwnCreations.{first_contents}
use Rattle.pool_threads.specs.declared.handle.Handle.{Handle}
use Rattle.pool_threads.specs.declared.handle.LastSeen.{LastSeen}
use Rattle.pool_threads.specs.declared.shared.Shared.{Shared}
use Rattle.pool_threads.specs.Answers.{state_seen}
use Rattle.pool_threads.specs.Handles.{IsLeftBehind, OpensBehind, WasOf, kin_left, kin_of, opening_view, view_seen}
use Rattle.pool_threads.specs.Views.{SeenPool}
use Rattle.pool_threads.specs.Waits.{SyncsPool}
use Rattle.word_lock.specs.Seats.{kin, seat_table}
use Rattle.copies.specs.Copies.{MakesAll, object_writes}
use Rattle.copies.specs.NewPools.{CopiesAndLeaves, CopiesAndSyncs, CopiesIfDone, HoldsTransactions, IsCopy}
use Rattle.copies.specs.Stops.{StaysAlone}
use Rattle.copies.specs.declared.stop.Stop.{Stop}

-- a past without entries leaves what it began with, and each of its entries is acknowledged
none_unknown : (past : Past) → past.entries ≡ [] → AllAcknowledged past
none_unknown past none ordinal e at = absurd (none_at ordinal e (subst (λ (l : List Entry). slice_get l ordinal ≡ Some e) none at))

none_left : (past : Past) → past.entries ≡ [] → (c : Contents) → IsLeftBy past c → c ≡ past.base
none_left past none c left =
    let ran : in_turn apply_all [] past.base ≡ Ok c = subst (λ (l : List Entry). in_turn apply_all (ops_of l) past.base ≡ Ok c) none (replays_all past (none_unknown past none) c left) in
    let is : c ≡ past.base = cc in is

module _ {Dev : Type 0} {G : Ghosts Dev} where
  pub was_of : (p : Shared Dev G) (first last : Handle Dev G) (l : LastSeen Dev G) → IsOnlyHandle p first → StaysAlone first last → IsLeftBehind last l → WasOf p l
  was_of p first last l only stays behind = ap (λ s. seat_table s) behind ∙ stays.same_pool.0 ∙ only.of

  pub number_of : (p : Shared Dev G) (first last : Handle Dev G) (l : LastSeen Dev G) → IsOnlyHandle p first → StaysAlone first last → IsLeftBehind last l → kin_left l ≡ 0
  number_of p first last l only stays behind = ap (λ s. kin s) behind ∙ stays.met_none.0 ∙ only.number

  -- transactions are added as they are made, and a sync adds none
  all_alone : (all : List (List Op)) (old new : Handle Dev G) → MakesAll all old new → AddsAlone all old new
  all_alone [] old new (none, is, same) = alone_same old new same
  all_alone (ops ∷ rest) old new (r, next, made, more) = alone_on (ops ∷ []) rest old next new (transacted_alone command_owner ops (Ok r) old next made) (all_alone rest next new more)

  module _ (all : List (List Op)) (first done last : Handle Dev G) (made : MakesAll all first done) (group : Group) (syncs : SyncsPool (Ok group) done last) where
    pub added : AddsAlone all first last
    added = subst (λ (l : List (List Op)). AddsAlone l first last) (append-nil all) (alone_on all [] first done last (all_alone all first done made) (synced_alone (Ok group) done last syncs))

    synced_known : kin_of done ≡ 0 → IsSound (view_seen done) → ∥ AllAcknowledged (past_seen last) ∥₁
    synced_known only sound =
        ∥∥₁_elim (sound_on (IsTrue G.keeps_model) (view_seen done) (view_seen last) (along_syncs (Ok group) done last syncs).onward sound) ∥∥₁_prop (λ x.
        ∥∥₁_elim (synced_alone (Ok group) done last syncs only).1 ∥∥₁_prop (λ a.
        ∥∥₁_map {B = AllAcknowledged (past_seen last)} (durable_after group done last sound syncs) (λ d. all_acknowledged (state_seen done) (state_seen last) x a d)))

  -- all of them are acknowledged then
  pub known : (all : List (List Op)) (first done last : Handle Dev G) → MakesAll all first done → (group : Group) → SyncsPool (Ok group) done last → kin_of first ≡ 0 → (past_seen first).entries ≡ [] → ∥ AllAcknowledged (past_seen last) ∥₁
  known [] first done last made group syncs only empty =
      ∥∥₁_map {B = AllAcknowledged (past_seen last)} (added [] first done last made group syncs only).1 (λ a. none_unknown (past_seen last) (same_entries (past_seen first) (past_seen last) a ∙ empty))
  known (ops ∷ rest) first done last made group syncs only empty =
      synced_known (ops ∷ rest) first done last made group syncs (all_alone (ops ∷ rest) first done made only).0
      (sound_first (ops ∷ rest) (length (ops ∷ rest)) (Ok tt) first done (λ none. absurd (let no : suc (length rest) ≡ 0 = none in omega (arith, no))) made)

  -- The only handle of a new pool made these transactions, and synced the pool. So its device holds them, whatever a crash
  -- leaves.
  pub holds : (p : Shared Dev G) (device : Dev) (dirty_max : ℕ) → OpensBehind (IsTrue G.keeps_model) (G.disk device) dirty_max (opening_view p) → (name : List ℕ) (created : ℕ) → (IsTrue G.keeps_model → IsLeft (new_past (first_contents name) created 0) (G.disk device))
      → (all : List (List Op)) (first done last : Handle Dev G) → IsOnlyHandle p first → MakesAll all first done → (group : Group) → SyncsPool (Ok group) done last
      → (l : LastSeen Dev G) → IsLeftBehind last l → (after : Dev) → ClosesAfter p l after → IsTrue G.keeps_model → HoldsTransactions name all (G.disk after)
  holds p device dirty_max opens name created left all first done last only made group syncs l behind after closes keeps =
      let a = added all first done last made group syncs only.number in
      let empty : (past_seen first).entries ≡ [] = ap (λ (v : SeenPool). v.past.entries) only.seen ∙ ap (λ (x : Past). x.entries) opens.anew in
      let leaves = alone_leaves p device dirty_max opens first last only l a.0 behind all a.1 (known all first done last made group syncs only.number empty) after closes keeps in
      let past : Past = new_past (first_contents name) created 0 in
      ∥∥₁_map {B = (later : Past) × ((c : Contents) → IsLeftBy later c → in_turn apply_all all (first_contents name) ≡ Ok c) × AreSafe (G.disk after) later × IsLeft later (G.disk after)} (leaves past (left keeps))
      (λ (later, so, upon). (
        later,
        λ c is. subst (λ (b : Contents). in_turn apply_all all b ≡ Ok c) (none_left past refl later.base upon.base) (so c is).1,
        upon.safe,
        upon.left,
      ))

  -- what a handle that copied all has done
  pub if_done : (keeps : Bool) (disk : Disk) (skips : Bool) (r : Result Bool Stop) (old new : Handle Dev G) (before after : Option (List ℕ)) → IfOk r (λ whole. CopiesAndSyncs keeps disk skips whole old new before after) → CopiesIfDone keeps disk skips r old new before after
  if_done keeps disk skips (Ok whole) old new before after did = did
  if_done keeps disk skips (Err stop) old new before after did = tt

  -- it is a copy, and the new pool's device holds it
  pub copied_so : (p : Shared Dev G) (device : Dev) (dirty_max : ℕ) → OpensBehind (IsTrue G.keeps_model) (G.disk device) dirty_max (opening_view p) → (name : List ℕ) (created : ℕ) → (IsTrue G.keeps_model → IsLeft (new_past (first_contents name) created 0) (G.disk device))
      → (keeps : Bool) (disk : Disk) (skips : Bool) (r : Result Bool Stop) (l : LastSeen Dev G) (before after : Option (List ℕ)) → CopiesAndLeaves keeps disk skips p r l before after → (closed : Dev) → ClosesAfter p l closed
      → IfOk r (λ whole. IsCopy G keeps disk name skips whole closed before after)
  copied_so p device dirty_max opens name created left keeps disk skips (Err stop) l before after c closed closes = tt
  copied_so p device dirty_max opens name created left keeps disk skips (Ok whole) l before after c closed closes =
      let did = c.did.copies in
      record {
        all = record { steps = did.steps; chain = did.chain; written = did.written; whole_is = did.whole_is; strict = did.strict };
        holds = holds p device dirty_max opens name created left (flat_map object_writes did.steps) c.first c.did.done c.last c.only did.made c.did.group c.did.syncs l c.behind closed closes;
      }
