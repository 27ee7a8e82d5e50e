-- The changes of the unsynced groups, by places: the oldest group has place 0.
use Rattle.std.specs.Prelude.{ℕ, zero, suc, ◌≡◌, ◌≢◌, ◌+◌, List, Option, Some, None, IsSomeAnd, unwrap_or}
use Rattle.std.specs.Option.{option_map_or}
use Rattle.std.specs.Ordering.{nat_cmp}
use Rattle.std.specs.FinMap.{FinMap}
use Rattle.base.specs.declared.operation.Op.{Op}
use Rattle.base.specs.history.Contents.{name_given_by_all}
use Rattle.extents.specs.declared.extents.Extents.{Extents}
use Rattle.unsynced_extents.specs.declared.unsynced.UnsyncedExtents.{UnsyncedExtents}
use Rattle.extents.specs.Patches.{Patches, laid_over, no_patch, with_ops}
use Rattle.extents.specs.Tables.{CanApplyAll, IsSame, name_of, patches_of}

-- what the group at a place made; there are three places
abbrev pub extents_at : UnsyncedExtents → ℕ → Option Extents
extents_at e zero = Some e.oldest
extents_at e (suc zero) = Some e.second
extents_at e (suc (suc zero)) = Some e.third
extents_at e (suc (suc (suc n))) = None

abbrev pub changes_at : UnsyncedExtents → ℕ → Patches
changes_at e place = option_map_or patches_of (extents_at e place) (λ _. no_patch)

-- the name that the group at a place gives, if it gives one
abbrev pub name_at : UnsyncedExtents → ℕ → Option (List ℕ)
name_at e place = option_map_or name_of (extents_at e place) None

-- the operations have their room at a place
abbrev pub CanApplyAt : ℕ → UnsyncedExtents → List Op → Type 0
CanApplyAt place e ops = IsSomeAnd (extents_at e place) (λ extents. CanApplyAll extents ops)

-- operations that had their room at a place have it
abbrev pub CanStillApplyAt : UnsyncedExtents → UnsyncedExtents → Type 0
CanStillApplyAt old new = (place : ℕ) (ops : List Op) → CanApplyAt place old ops → CanApplyAt place new ops

-- what the groups at other places made is as it was, with its room
abbrev pub KeepsOtherPlaces : ℕ → UnsyncedExtents → UnsyncedExtents → Type 0
KeepsOtherPlaces place old new = (other : ℕ) → other ≢ place → extents_at new other ≡ extents_at old other

-- at each place all objects have patches that say the same, and the name is the same
pub record LeavesChanges (old new : UnsyncedExtents) : Type 0 where
  pub patches : (place n : ℕ) → IsSame (changes_at new place n) (changes_at old place n)
  pub names : (place : ℕ) → name_at new place ≡ name_at old place

-- the new changes at a place are those of before with these operations
pub record AppliesAt (place : ℕ) (ops : List Op) (old new : UnsyncedExtents) : Type 0 where
  pub patches : (n : ℕ) → IsSame (changes_at new place n) (with_ops ops (changes_at old place) n)
  pub name : name_at new place ≡ name_given_by_all ops (name_at old place)

-- each group has the place before its old one
pub record MovesUp (old new : UnsyncedExtents) : Type 0 where
  pub patches : (place n : ℕ) → changes_at new place n ≡ changes_at old (place + 1) n
  pub names : (place : ℕ) → name_at new place ≡ name_at old (place + 1)

-- operations that had their room at a place have it at the place before
abbrev pub RoomMovesUp : UnsyncedExtents → UnsyncedExtents → Type 0
RoomMovesUp old new = (place : ℕ) (ops : List Op) → CanApplyAt (place + 1) old ops → CanApplyAt place new ops

-- all changes laid one over the other, the oldest first
abbrev pub laid_all : UnsyncedExtents → FinMap nat_cmp (List ℕ) → FinMap nat_cmp (List ℕ)
laid_all e below = laid_over (changes_at e 2) (laid_over (changes_at e 1) (laid_over (changes_at e 0) below))

-- the name that the newest of the groups gives that give one, else the synced one
abbrev pub name_over : UnsyncedExtents → List ℕ → List ℕ
name_over e synced = unwrap_or (name_at e 2) (unwrap_or (name_at e 1) (unwrap_or (name_at e 0) synced))

-- the patches of so many groups from this one on, laid one over the other, oldest first
abbrev pub laid_groups : ℕ → ℕ → (ℕ → Patches) → FinMap nat_cmp (List ℕ) → FinMap nat_cmp (List ℕ)
laid_groups zero group patches below = below
laid_groups (suc count) group patches below = laid_groups count (suc group) patches (laid_over (patches group) below)
