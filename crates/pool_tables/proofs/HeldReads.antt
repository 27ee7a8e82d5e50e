-- Reads of a pool, and what a device that holds it has for them.
use Rattle.std.proofs.Common.{ℕ, ◌≡◌, ◌≢◌, ◌≤◌, ◌∙◌, true, false, List, [], ap, refl, sym, ◌⊎◌, inl, inr, arith}
use Rattle.std.specs.Prelude.{IsTrue, Option, Some, None, Result, Ok, Err, IfErr, IfOk, is_some, unwrap_or}
use Rattle.std.specs.FinMap as finite
use Rattle.base.specs.declared.error.PoolError.{PoolError}
use Rattle.base.specs.declared.error.PoolError.TheVariants as error
use Rattle.base.specs.disk.Disk.{bytes_of}
use Rattle.base.specs.formats.Digest.{digest_of}
use Rattle.base.specs.formats.Geometry.{IsGeometry, block_address, block_count}
use Rattle.base.specs.history.Past.{Past}
use Rattle.base.specs.history.Plans.{NumberRange}
use Rattle.base.specs.steps.Locks.{is_covered}
use Rattle.base.specs.steps.Refusals.{read_refusal}
use Rattle.base.specs.steps.Shown.{Shown}
use Rattle.base.specs.steps.Steps.{Digest, Read, State, bytes_in}
use Rattle.base.specs.kept.Stored.{IsHeld, frame_at}
use Rattle.base.proofs.formats.Geometry.{blocks-end}
use Rattle.base.proofs.common.Choices.{some_there, none_there}
use Rattle.device_model.specs.declared.device.SectorDevice.{Ghosts}
use Rattle.object_maps.specs.Cached.{IsReadRefusal}
use Rattle.tree_blocks.specs.Pointers.{pointers_of}
use Rattle.object_reads.specs.declared.shown_tree.ShownTree.{ShownTree}
use Rattle.object_reads.specs.ShownTrees as reads
use Rattle.object_reads.specs.ShownTrees.{IsRangeRefusal, IsRangeRefusalOnTree, StandsOn}
use Rattle.pool_tables.specs.declared.pool.PoolTables.{PoolTables}
use Rattle.pool_tables.specs.GroupPlans.{HoldsSyncedTree}
use Rattle.pool_tables.specs.Shows.{pool_objects, pool_shown}
use Rattle.pool_tables.specs.Told.{held_with, pool_told}
use Rattle.pool_tables.proofs.ReadSteps.{is_unreadable}
use Rattle.pool_tables.proofs.syncs.PlannedGroups.{synced_tree}

-- what is shown, with a past
abbrev pub at : Shown → Past → State
at s past = record { shown = s; past = past }

-- the first refusal of a read
module _ (owner : ℕ) (t : NumberRange) (s : Shown) where
  pub is_suspended : s.suspended ≡ true → read_refusal owner t s ≡ Some error.Suspended
  is_suspended h = rw h refl

  pub is_bad : s.suspended ≡ false → is_unreadable t ≡ true → read_refusal owner t s ≡ Some error.BadRange
  is_bad h bad = rw (h, bad) refl

  pub is_open : s.suspended ≡ false → is_unreadable t ≡ false → is_covered owner t s.locks ≡ false → read_refusal owner t s ≡ Some error.NotLocked
  is_open h bad covered = rw (h, bad, covered) refl

  pub is_absent : s.suspended ≡ false → is_unreadable t ≡ false → is_covered owner t s.locks ≡ true → is_some (finite.get s.contents.objects t.number) ≡ false
      → read_refusal owner t s ≡ Some error.NoObject
  is_absent h bad covered none = rw (h, bad, covered, none_there (finite.get s.contents.objects t.number) none) refl

  pub read_refused : (keeps : Type 0) (e : PoolError) (past : Past) → read_refusal owner t s ≡ Some e → Read keeps owner t (Err e) (at s past) (at s past)
  read_refused keeps e past is = rw is (refl, refl)

-- and of a digest
pub digest_refused : (keeps : Type 0) (s : Shown) (past : Past) → s.suspended ≡ true → Digest keeps (Err error.Suspended) (at s past) (at s past)
digest_refused keeps s past h = rw h (refl, refl)

-- it may be refused damage over a device that does not keep the model
pub damage_is_not : (keeps : Type 0) (e : PoolError) → (keeps → (e ≡ error.NoMemory) ⊎ (e ≡ error.Read)) → (kind address : ℕ) → e ≡ error.Damaged kind address → keeps → ⊥
damage_is_not keeps e sound kind address is k = elim (sound k) [
  | inl memory ↦ absurd (let no = sym memory ∙ is in cc)
  | inr read ↦ absurd (let no = sym read ∙ is in cc)
]

-- a read that no test refuses gives the bytes, or is refused as its blocks are
module _ (keeps : Type 0) (owner : ℕ) (t : NumberRange) (s : Shown) (past : Past) (none : read_refusal owner t s ≡ None) (there : is_some (finite.get s.contents.objects t.number) ≡ true) where
  bytes_told : (bytes : List ℕ) → (keeps → bytes ≡ bytes_in t (unwrap_or (finite.get s.contents.objects t.number) [])) → Read keeps owner t (Ok bytes) (at s past) (at s past)
  bytes_told bytes exact =
      let whole = some_there (finite.get s.contents.objects t.number) there in
      let told : keeps → bytes ≡ bytes_in t whole.0 = λ k. exact k ∙ ap (λ (o : Option (List ℕ)). bytes_in t (unwrap_or o [])) whole.1 in
      rw none (rw whole.1 told, refl)

  pub read_told : (answer : Result (List ℕ) PoolError) → (keeps → IfOk answer (λ bytes. bytes ≡ bytes_in t (unwrap_or (finite.get s.contents.objects t.number) [])))
      → IfErr answer IsRangeRefusal → (keeps → IfErr answer IsRangeRefusalOnTree) → Read keeps owner t answer (at s past) (at s past)
  read_told (Ok bytes) exact refused sound = bytes_told bytes exact
  read_told (Err e) exact (inl memory) sound = rw none (inl memory, refl)
  read_told (Err e) exact (inr (inl read)) sound = rw none (inr (inl read), refl)
  read_told (Err e) exact (inr (inr (kind, address, is))) sound = rw none (inr (inr (kind, address, is, damage_is_not keeps e sound kind address is)), refl)

pub digest_told : (keeps : Type 0) (s : Shown) (past : Past) → s.suspended ≡ false → (answer : Result (List ℕ) PoolError) → (keeps → IfOk answer (λ d. d ≡ digest_of s.contents))
    → IfErr answer IsReadRefusal → (keeps → IfErr answer (λ e. e ≡ error.Read)) → Digest keeps answer (at s past) (at s past)
digest_told keeps s past h (Ok digest) exact refused sound = rw h (exact, refl)
digest_told keeps s past h (Err e) exact (inl read) sound = rw h (inr (inl read), refl)
digest_told keeps s past h (Err e) exact (inr (kind, address, is)) sound =
    rw h (inr (inr (kind, address, is, damage_is_not keeps e (λ k. inr (sound k)) kind address is)), refl)

-- it needs no memory
pub no_memory : (answer : Result (List ℕ) PoolError) → IfErr answer IsReadRefusal → IfErr answer (λ e. e ≢ error.NoMemory)
no_memory (Ok digest) refused = tt
no_memory (Err e) (inl read) = λ is. let no : error.Read ≡ error.NoMemory = sym read ∙ is in cc
no_memory (Err e) (inr (kind, address, damaged)) = λ is. let no : error.Damaged kind address ≡ error.NoMemory = sym damaged ∙ is in cc

pub suspended_first : error.Suspended ≢ error.NoMemory
suspended_first is = cc

-- the block area of a device lies on it
pub area_fits : (geometry size : ℕ) → IsGeometry geometry → size ≡ geometry → block_address (block_count geometry) ≤ size
area_fits geometry size sized is = let end = blocks-end geometry sized in omega (arith, end, is)

-- a device that holds a pool has its synced tree
pub tree_held : (now : List ℕ) (past : Past) (p : PoolTables) → IsHeld (held_with (pool_told p now) past) → HoldsSyncedTree p now
tree_held now past p x = synced_tree now (pool_shown p) past (pointers_of p.synced.tree) x.kept.stored x.explained

-- what a pool hands its reads
module _ (p : PoolTables) (t : ShownTree) (framed : t.frame ≡ frame_at (pool_shown p) (pool_shown p).line.synced) (tree : t.tree.now ≡ p.synced.tree)
    (changes : t.changes.now ≡ p.changes) where
  pub objects_are : reads.shown_objects t ≡ pool_objects p
  objects_are = rw (tree, changes) refl

  pub tree_fits : IsGeometry p.geometry → (size : ℕ) → size ≡ p.geometry → block_address t.frame.blocks ≤ size
  tree_fits sized size is = rw framed (area_fits p.geometry size sized is)

  -- the synced tree stands on a device that holds the pool
  pub held_stands : {Dev : Type 0} (D : Ghosts Dev) (device : Dev) → IsTrue D.keeps_model → (past : Past) → IsHeld (held_with (pool_told p (bytes_of (D.disk device).now)) past)
      → StandsOn D device t
  held_stands D device keeps past h =
      let held = tree_held (bytes_of (D.disk device).now) past p h in
      record {
        keeps = keeps;
        tree = rw (framed, tree) held;
      }
