-- What becomes of a place, and what comes back of it, as its state says.
use Rattle.std.proofs.Common.{◌≡◌, ℕ, ◌<◌, inl, Bool, true, false, not, List, length, map, refl, sym, ◌∙◌, ap}
use Rattle.std.specs.Prelude.{IsTrue, slice_index_or}
use Rattle.base.specs.declared.pointer.Pointer.{Pointer}
use Rattle.base.specs.declared.names.ObjectId.{ObjectId}
use Rattle.base.specs.formats.Fields.{no_pointer, pointer_in}
use Rattle.base.specs.declared.record_state.RecordState.{RecordState}
use Rattle.base.specs.declared.record_state.RecordState.TheVariants.{Unchanged, Dirty, Hole}
use Rattle.base.specs.tree.Places.{record_of_strip, strip_number}
use Rattle.base.specs.kept.PlacedTrees.{padded_record}
use Rattle.base.specs.tree.Syncs.{is_dirty}
use Rattle.checked_blocks.specs.Sealing.{padded}
use Rattle.space.specs.FreeSets.{FreeSpace}
use Rattle.tree_blocks.specs.declared.place.BlockPlace.{BlockPlace}
use Rattle.tree_blocks.specs.declared.place.BlockPlace.TheVariants.{Data, Directory, Indirect, Root, Top}
use Rattle.tree_blocks.specs.declared.place.RecordPlace.{RecordPlace}
use Rattle.tree_plans.specs.declared.planner.PlannedBlock.{PlannedBlock}
use Rattle.tree_plans.specs.declared.planner.Planner.{Planner}
use Rattle.tree_plans.specs.Order.{Adds, address_if}
use Rattle.tree_plans.specs.Pointers.{entry_pointer_of}
use Rattle.tree_plans.specs.Parts.{ClearsPlace, ExtendsPlan, PlansDirectory, PlansIndirect, PlansRecord, PlansRoot, PlansTop, TakesBlock, new_blocks_of, directory_before}
use Rattle.tree_plans.specs.Plans.{FreesOnce, FreesOnly, HasBecome, IsOf, IsOfPlace, PlaceFrees, new_block, progress_of, state_above, state_over_indirects, state_over_records}
use Rattle.tree_blocks.specs.BlockPlaces.{place_of}
use Rattle.tree_plans.specs.Walks.{AreEntriesWritten, has_object, has_objects, is_any_touched, root_state}
use Rattle.tree_plans.specs.declared.changed_object.ChangedObject.{ChangedObject}
use Rattle.tree_plans.specs.declared.changes.ObjectChanges.{ObjectChanges}
use Rattle.tree_plans.specs.declared.plan_source.PlanSource.{PlanSource}
use Rattle.tree_blocks.specs.declared.tree.ObjectEntry.{ObjectEntry}
use Rattle.std.specs.BTreeMap.{BTreeMap}
use Rattle.std.specs.Ordering.{nat_cmp}
use Rattle.std.specs.FinMap.{FinMap}
use Rattle.tree_plans.specs.Uses.{UsesOnly}
use Rattle.tree_plans.proofs.Order.{adds_if, adds_none, adds_not}
use Rattle.tree_plans.proofs.Progress.{goes_nowhere}
use Rattle.tree_plans.proofs.Walks.{frees_weaker, not-is_empty}

-- what a plan has done at a place in a state
pub record IsDone (free : FreeSpace) (place : BlockPlace) (state : RecordState) (was : Pointer) (Fits : List ℕ → Type 0) (old new : Planner) (pointer : Pointer) : Type 0 where
  pub goes : ExtendsPlan free old new
  pub planned : HasBecome (progress_of new) (place_of place) state was pointer Fits
  pub frees : PlaceFrees old.freed.items new.freed.items state was
  pub once : FreesOnce old.freed.items new.freed.items (IsOfPlace state was)
  pub uses : UsesOnly (new_blocks_of old) (new_blocks_of new) pointer.address
  pub adds : Adds (new_blocks_of old) (new_blocks_of new) (address_if (is_dirty state) pointer)

-- it stays as it was
pub kept : (free : FreeSpace) (place : BlockPlace) (state : RecordState) (was : Pointer) (Fits : List ℕ → Type 0) → state ≡ Unchanged → (planner : Planner) → IsDone free place state was Fits planner planner was
kept free place state was Fits is planner = record {
  goes = goes_nowhere _ _;
  planned = rw is refl;
  frees = λ address among. inl among;
  once = λ fresh distinct. distinct;
  uses = λ address taken. inl taken;
  adds = adds_not _ _ was (rw is refl);
}

-- it has no block any more
pub cleared : (free : FreeSpace) (place : BlockPlace) (state : RecordState) (was : Pointer) (Fits : List ℕ → Type 0) → state ≡ Hole → (old new : Planner) (pointer : Pointer) → ClearsPlace was old new pointer
    → IsDone free place state was Fits old new pointer
cleared free place state was Fits is old new pointer done =
    let same : new_blocks_of new ≡ new_blocks_of old = ap (λ (l : List PlannedBlock). map new_block l) (ap (λ b. b.items) done.none_taken) in
    record {
      goes = done.goes free;
      planned = rw is done.cleared;
      frees = frees_weaker _ _ _ state (rw is refl) done.frees;
      once = λ fresh. done.once (λ address of. fresh address (rw is refl, of));
      uses = λ address taken. inl (rw same at taken);
      adds = rw (is, same) (adds_none (new_blocks_of old));
    }

-- it has a new block
pub taken : (free : FreeSpace) (place : BlockPlace) (state : RecordState) (was : Pointer) (Fits : List ℕ → Type 0) (payload : List ℕ) → state ≡ Dirty → Fits (padded payload)
    → (old new : Planner) (pointer : Pointer) → TakesBlock free place payload was old new pointer → IsDone free place state was Fits old new pointer
taken free place state was Fits payload is fits old new pointer done = record {
  goes = done.goes;
  planned = rw is (padded payload, done.written, fits);
  frees = frees_weaker _ _ _ state (rw is refl) done.frees;
  once = λ fresh. done.once (λ address of. fresh address (rw is refl, of));
  uses = done.uses;
  adds = adds_if _ _ _ pointer (rw is refl) done.adds;
}

-- a record of an object
pub record_done : (free : FreeSpace) (place : RecordPlace) (at : BlockPlace) (bytes : List ℕ) (was : Pointer) (state : RecordState) (old new : Planner) (pointer : Pointer)
    → at ≡ Data (strip_number place.id.0 place.strip) place.index
    → IsDone free at state was (λ payload. payload ≡ padded_record (record_of_strip place.strip place.index) bytes) old new pointer → PlansRecord free place bytes was state old new pointer
record_done free place at bytes was state old new pointer is done = record { goes = done.goes; planned = rw is at done.planned; frees = done.frees; once = done.once; uses = done.uses; adds = done.adds }

-- a block of pointers
abbrev pub FitsPointers : List Pointer → List ℕ → Type 0
FitsPointers pointers payload = (r : ℕ) → r < 84 → pointer_in payload r ≡ slice_index_or pointers r no_pointer

-- an indirect block
pub indirect_done : (free : FreeSpace) (object : ChangedObject) (strip : ℕ) (at : BlockPlace) (records : List Pointer) (was : Pointer) (old new : Planner) (pointer : Pointer)
    → at ≡ Indirect (strip_number object.id.0 strip)
    → IsDone free at (state_over_records object strip records) was (FitsPointers records) old new pointer → PlansIndirect free object strip records was old new pointer
indirect_done free object strip at records was old new pointer is done = record { goes = done.goes; planned = rw is at done.planned; frees = done.frees; once = done.once; uses = done.uses; adds = done.adds }

-- a top
pub top_done : (free : FreeSpace) (object : ChangedObject) (indirects : List Pointer) (old new : Planner) (pointer : Pointer)
    → IsDone free (Top object.id) (state_over_indirects object indirects) object.old.now.top (FitsPointers indirects) old new pointer
    → FreesOnly old.freed.items new.freed.items object.old.now.top → FreesOnce old.freed.items new.freed.items (IsOf object.old.now.top) → PlansTop free object indirects old new pointer
top_done free object indirects old new pointer done only once = record { goes = done.goes; planned = done.planned; frees = only; once = once; uses = done.uses; adds = done.adds }

-- the state of a place above others, by what is computed of it
pub above_kept : (touched left : Bool) → touched ≡ false → state_above touched left ≡ Unchanged
above_kept touched left e = ap (λ (b : Bool). state_above b left) e

pub above_gone : (touched left : Bool) → touched ≡ true → left ≡ false → state_above touched left ≡ Hole
above_gone touched left e f = rw (e, f) refl

pub above_made : (touched left : Bool) → touched ≡ true → left ≡ true → state_above touched left ≡ Dirty
above_made touched left e f = rw (e, f) refl

-- the state of a place above the records, as it is computed
pub state_told : (touched left found : Bool) (result state : RecordState) → result ≡ state_above touched found → found ≡ left → result ≡ state → state_above touched left ≡ state
state_told touched left found result state computed same is = ap (state_above touched) (sym same) ∙ sym computed ∙ is

-- a directory
pub directory_done : (source : PlanSource) (after : FinMap nat_cmp (List ℕ)) (entries : BTreeMap ObjectId ObjectEntry) (index : ℕ) (touched : Bool) (was : Pointer) (old new : Planner) (pointer : Pointer) → was ≡ directory_before source index
    → IsDone source.free.now (Directory index) (state_above touched (has_object after index)) was (AreEntriesWritten (entry_pointer_of source.tree.now.entries.items) entries.entries after index 63) old new pointer
    → PlansDirectory source after entries index touched old new pointer
directory_done source after entries index touched was old new pointer is done =
    record { goes = done.goes; planned = rw (← is) done.planned; frees = rw (← is) done.frees; once = rw (← is) done.once; uses = done.uses; adds = done.adds }

-- the root
pub root_told : (objects : List (ObjectId × ObjectChanges)) (after : FinMap nat_cmp (List ℕ)) (empty found : Bool) (result state : RecordState) → result ≡ state_above (not empty) found
    → (IsTrue empty → length objects ≡ 0) × (length objects ≡ 0 → IsTrue empty) → found ≡ has_objects after → result ≡ state → root_state objects after ≡ state
root_told objects after empty found result state computed none same is =
    state_told (is_any_touched objects) (has_objects after) found result state (computed ∙ ap (λ (b : Bool). state_above b found) (not-is_empty (length objects) empty none)) same is

pub root_done : (source : PlanSource) (after : FinMap nat_cmp (List ℕ)) (objects : BTreeMap ObjectId ObjectChanges) (directories : List Pointer) (old new : Planner) (pointer : Pointer)
    → IsDone source.free.now Root (root_state objects.entries after) source.tree.now.root (FitsPointers directories) old new pointer
    → PlansRoot source after objects directories old new pointer
root_done source after objects directories old new pointer done = record { goes = done.goes; planned = done.planned; frees = done.frees; once = done.once; uses = done.uses; adds = done.adds }
