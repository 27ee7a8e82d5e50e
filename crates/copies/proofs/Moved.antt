-- What was so of a disk as one look left it is so of the disk as it was before: a look changes no disk that is known.
use Rattle.std.proofs.Common.{◌≡◌, ◌∷◌, [], ℕ, List, None, Option, Some, subst}
use Rattle.std.specs.Prelude.{Bool, IsTrue}
use Rattle.base.specs.declared.operation.Op.{Op}
use Rattle.base.specs.declared.pointer.Pointer.{Pointer}
use Rattle.base.specs.disk.Disk.{Disk, bytes_of}
use Rattle.device_model.specs.declared.device.SectorDevice.{Ghosts}
use Rattle.object_views.specs.ObjectViews.{IsCheckedRead, IsObjectViewOf, TellsOwnDamage, length_seen}
use Rattle.object_views.specs.declared.view.ObjectView.{ObjectView}
use Rattle.pool_threads.specs.declared.handle.Handle.{Handle}
use Rattle.base.specs.declared.error.PoolError.TheVariants as refusal
use Rattle.trees.specs.declared.damages.BlockDamage.{BlockDamage}
use Rattle.copies.specs.Copies.{AreAllSteps, Chain, CopiesObjects, CopiesRecords, Goes, IsLostFrom, IsObjectStep, IsRecordStep, ObjectStep, RecordStep}
use Rattle.copies.specs.Copies.ObjectStep.{Passed, Viewed}
use Rattle.copies.specs.Copies.RecordStep.{Hole, Lost, Written}
use Rattle.copies.specs.ReadRecords.{AreLost, AreMountedBytes, IsSeen, MountsNone, OnSeen}
use Rattle.copies.specs.Stops.{IsStopOf}
use Rattle.copies.specs.declared.stop.Stop.{Stop}
use Rattle.copies.specs.declared.stop.Stop.TheVariants as stop

pub chain_moved : {S : Type 0} (P Q : ℕ → S → ℕ → Type 0) → ((a : ℕ) (s : S) (b : ℕ) → P a s b → Q a s b) → (from to : ℕ) (steps : List S) → Chain P from steps to → Chain Q from steps to
chain_moved P Q each from to [] same = same
chain_moved P Q each from to (s ∷ steps) (middle, one, rest) = (middle, each from s middle one, chain_moved P Q each middle to steps rest)

module _ (keeps : Bool) (a b : Disk) (same : IsTrue keeps → a ≡ b) where
  pub seen_moved : (v : ObjectView) (P : List ℕ → Pointer → Type 0) → OnSeen keeps a v P → OnSeen keeps b v P
  seen_moved v P h = λ k. subst (λ (d : Disk). (seen : IsObjectViewOf (bytes_of d.now) v) → P (bytes_of d.now) seen.u.root) (same k) (h k)

  pub lost_moved : (v : ObjectView) (d : BlockDamage) (low high : ℕ) → IsLostFrom keeps a v d low high → IsLostFrom keeps b v d low high
  lost_moved v d low high is = seen_moved v (λ (image : List ℕ) (root : Pointer). AreLost image root v d low high × MountsNone image) is

  record_moved : (v : ObjectView) (from : ℕ) (s : RecordStep) (to : ℕ) → IsRecordStep keeps a v from s to → IsRecordStep keeps b v from s to
  record_moved v from (Written low high bytes) to (begins, ends, some, checked) = (begins, ends, some, seen_moved v (λ (image : List ℕ) (root : Pointer). IsCheckedRead image root v (record { low = from; high = to }) bytes × AreMountedBytes image v (record { low = from; high = to }) bytes) checked)
  record_moved v from (Hole low high bytes) to (begins, ends, some, zeros, checked) = (begins, ends, some, zeros, seen_moved v (λ (image : List ℕ) (root : Pointer). IsCheckedRead image root v (record { low = from; high = to }) bytes × AreMountedBytes image v (record { low = from; high = to }) bytes) checked)
  record_moved v from (Lost low high d) to (begins, ends, some, is) = (begins, ends, some, lost_moved v d from to is)

  all_moved : (v : ObjectView) (size : Option ℕ) (steps : List RecordStep) → AreAllSteps keeps a v size steps → AreAllSteps keeps b v size steps
  all_moved v None steps none = none
  all_moved v (Some n) steps chain = chain_moved (IsRecordStep keeps a v) (IsRecordStep keeps b v) (record_moved v) 0 n steps chain

  pub object_moved : (from : ℕ) (s : ObjectStep) (to : ℕ) → IsObjectStep keeps a from s to → IsObjectStep keeps b from s to
  object_moved from (Viewed v steps) to (number, next, seen, all) = (number, next, λ k. subst (λ (d : Disk). IsSeen (bytes_of d.now) v) (same k) (seen k), all_moved v (length_seen v) steps all)
  object_moved from (Passed first after damage) to (begins, ends, some, told) = (
    begins,
    ends,
    some,
    λ k. subst (λ (d : Disk). TellsOwnDamage (bytes_of d.now) from (refusal.Damaged damage.kind damage.address) damage.kind damage.address × MountsNone (bytes_of d.now)) (same k) (told k),
  )

  pub stop_moved : (skips : Bool) (s : Stop) → IsStopOf keeps a skips s → IsStopOf keeps b skips s
  stop_moved skips (stop.Old e) is = λ kind address damaged. (let h = is kind address damaged in (h.0, λ k. subst (λ (d : Disk). MountsNone (bytes_of d.now)) (same k) (h.1 k)))
  stop_moved skips (stop.New e) is = tt
  stop_moved skips stop.Unwritten (passes, none) = (passes, λ k. subst (λ (d : Disk). MountsNone (bytes_of d.now)) (same k) (none k))

  module _ {Dev : Type 0} {G : Ghosts Dev} where
    goes_moved : {S : Type 0} (P Q : ℕ → S → ℕ → Type 0) → ((x : ℕ) (s : S) (y : ℕ) → P x s y → Q x s y) → (writes : S → List (List Op)) (lines : S → List ℕ) (is_whole : S → Bool) (skips : Bool) (from to : ℕ) (whole : Bool) (h i : Handle Dev G) (o p : Option (List ℕ))
        → Goes P writes lines is_whole skips from to whole h i o p → Goes Q writes lines is_whole skips from to whole h i o p
    goes_moved P Q each writes lines is_whole skips from to whole h i o p g =
        record { steps = g.steps; chain = chain_moved P Q each from to g.steps g.chain; made = g.made; written = g.written; whole_is = g.whole_is; strict = g.strict }

    pub records_moved : (v : ObjectView) (skips : Bool) (from to : ℕ) (whole : Bool) (h i : Handle Dev G) (o p : Option (List ℕ)) → CopiesRecords keeps a v skips from to whole h i o p → CopiesRecords keeps b v skips from to whole h i o p
    records_moved v skips from to whole h i o p g = goes_moved (IsRecordStep keeps a v) (IsRecordStep keeps b v) (record_moved v) _ _ _ skips from to whole h i o p g

    pub objects_moved : (skips : Bool) (from to : ℕ) (whole : Bool) (h i : Handle Dev G) (o p : Option (List ℕ)) → CopiesObjects keeps a skips from to whole h i o p → CopiesObjects keeps b skips from to whole h i o p
    objects_moved skips from to whole h i o p g = goes_moved (IsObjectStep keeps a) (IsObjectStep keeps b) object_moved _ _ _ skips from to whole h i o p g
