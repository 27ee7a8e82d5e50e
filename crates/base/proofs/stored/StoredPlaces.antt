-- What a pool keeps of its device has the log, the synced tree and what a sync takes at distinct places; so each step
-- keeps them so.
use Rattle.std.proofs.Common.{◌≡◌, ℕ, true, false, List, [], ap, sym, subst, ◌∙◌}
use Rattle.std.proofs.lemmas.Bool.{false_from_ne_true}
use Rattle.std.specs.Prelude.{Option, Some, None, slice_get}
use Rattle.base.specs.declared.pointer.Pointer.{Pointer}
use Rattle.base.specs.formats.Geometry.{IsBlockAddress}
use Rattle.base.specs.steps.Locks.{is_in}
use Rattle.base.specs.tree.Places.{Place, IsInTree}
use Rattle.base.specs.kept.PlannedTrees.{NewBlock}
use Rattle.base.specs.history.Past.{Past}
use Rattle.base.specs.steps.Shown.{Shown, SyncPlan, taken_of}
use Rattle.base.specs.steps.Exact.{IsInLog, AreDistinctPlaces}
use Rattle.base.specs.kept.Stored.{NewTree, IsStored, IsSyncing, IsKept, RunsAs, frame_at}
use Rattle.base.proofs.tree.PlacedTrees.{in-tree}
use Rattle.base.proofs.stored.StoredSets.{IsAt, in-at}
use Rattle.base.proofs.common.KeptLists.{at-map}

module _ (now : List ℕ) (s : Shown) (pointers : Place → Pointer) (past : Past) (x : IsStored now s pointers past) where
  -- of what is taken it is known that each is one of the new blocks
  taken_at : (running : Option NewTree) → RunsAs now s pointers running past → (i address : ℕ) → slice_get (taken_of s.sync) i ≡ Some address
      → (new : NewTree) × IsSyncing now s pointers new past × (b : NewBlock) × (slice_get new.blocks i ≡ Some b) × (b.address ≡ address)
  taken_at None idle i address at =
      absurd (let no_way : slice_get [] i ≡ Some address = ap (λ (o : Option SyncPlan). slice_get (taken_of o) i) (sym idle) ∙ at in cc)
  taken_at (Some new) y i address at =
      let found = at-map (λ (b : NewBlock). b.address) new.blocks i address
      (ap (λ (l : List ℕ). slice_get l i) y.planned.taken ∙ ap (λ (o : Option SyncPlan). slice_get (taken_of o) i) (sym y.running) ∙ at) in
      (new, y, found.0, found.1, found.2)

  module _ (running : Option NewTree) (runs : RunsAs now s pointers running past) where
    is_taken : (address : ℕ) → is_in address (taken_of s.sync) ≡ true → IsAt (taken_of s.sync) address
    is_taken address is = in-at address (taken_of s.sync) is

    in_area : (address : ℕ) → is_in address (taken_of s.sync) ≡ true → IsBlockAddress s.blocks address
    in_area address is =
        let i = is_taken address is in
        let t = taken_at running runs i.0 address i.1 in
        subst (λ (a : ℕ). IsBlockAddress s.blocks a) t.4 (t.1.are.in_area i.0 t.2 t.3)

    taken_once : (i j address : ℕ) → slice_get (taken_of s.sync) i ≡ Some address → slice_get (taken_of s.sync) j ≡ Some address → i ≡ j
    taken_once i j address at_i at_j = go running runs
      where
        go : (running : Option NewTree) → RunsAs now s pointers running past → i ≡ j
        go None idle = absurd (let no_way : slice_get [] i ≡ Some address = ap (λ (o : Option SyncPlan). slice_get (taken_of o) i) (sym idle) ∙ at_i in cc)
        go (Some new) y =
            let block = λ (k : ℕ) (at : slice_get (taken_of s.sync) k ≡ Some address). at-map (λ (b : NewBlock). b.address) new.blocks k address
            (ap (λ (l : List ℕ). slice_get l k) y.planned.taken ∙ ap (λ (o : Option SyncPlan). slice_get (taken_of o) k) (sym y.running) ∙ at) in
            let b = block i at_i in
            let c = block j at_j in
            y.are.apart i j b.0 c.0 b.1 c.1 (b.2 ∙ sym c.2)

    not_in_tree : (address : ℕ) → is_in address (taken_of s.sync) ≡ true → IsInTree now s.root address → ⊥
    not_in_tree address is tree =
        let i = is_taken address is in
        let t = taken_at running runs i.0 address i.1 in
        let p = in-tree now (frame_at s s.line.synced) pointers x.synced.objects x.tree address (subst (λ (root : Pointer). IsInTree now root address) (sym x.root) tree) in
        t.1.leaves p.0 p.1 p.3 i.0 t.2 t.3 (t.4 ∙ sym p.2)

    not_taken : (address : ℕ) → IsInLog s.log address → is_in address (taken_of s.sync) ≡ false
    not_taken address log = false_from_ne_true (is_in address (taken_of s.sync)) (λ is.
        let i = is_taken address is in
        let t = taken_at running runs i.0 address i.1 in
        t.1.log_apart address log i.0 t.2 t.3 t.4)

-- what a pool keeps of its device has distinct places
pub kept_distinct : (now : List ℕ) (s : Shown) (pointers : Place → Pointer) (running : Option NewTree) (past : Past) → IsKept now s pointers running past → AreDistinctPlaces now s
kept_distinct now s pointers running past k =
    let x = k.stored in
    record {
      log_in_area = x.log_in_area;
      log_distinct = x.log_places;
      log_not_in_tree = x.log_apart;
      log_not_taken = not_taken now s pointers past x running k.sync;
      taken_in_area = in_area now s pointers past x running k.sync;
      taken_distinct = taken_once now s pointers past x running k.sync;
      taken_not_in_tree = not_in_tree now s pointers past x running k.sync;
    }
