-- The phases of a pool's disk, at rest on one view or between two while the uberblocks of the new one are written; and
-- when a pool alone has written a disk since its create.
use Rattle.std.specs.Prelude.{ℕ, ◌≡◌, ◌≢◌, ◌≤◌, ◌<◌, ◌+◌, ◌⊎◌, List, [], length, take, Ok}
use Rattle.base.specs.history.Contents.{Contents}
use Rattle.base.specs.formats.Fields.{part, number_at}
use Rattle.base.specs.formats.Geometry.{block_count, slot_of}
use Rattle.base.specs.kept.PlacedTrees.{HoldsTree}
use Rattle.base.specs.disk.Disk.{Write, Moment, Disk, HandedSince, bytes_of, moments, handed, settled, disk_size}
use Rattle.base.specs.disk.Fairness.{LeavesFairNow, IsCheckedPlace}
use Rattle.base.specs.kept.Views.{View, ended_in, IsView, IsLaid, HasFixedConfig, HasFixedSlot, view_frame, AreSlotsKnown, AreConfigsUpTo, config_content}
use Rattle.base.specs.kept.LogRoom.{HasImportRoom}
use Rattle.base.specs.tree.Mount.{apply_above}

-- At rest: one view is laid, its uberblock is fixed in a label, and each other that counts is of a lower group.
pub record IsAtRest (size t flushed : ℕ) (m : Moment) (v : View) : Type 0 where
  pub laid : IsLaid size t flushed m v
  pub slot : HasFixedSlot size m v
  pub slots : AreSlotsKnown size t (handed m) v.u.group (λ content. content ≡ v.slot)

-- While the uberblocks of the new view are written: both are laid, the old one's uberblock is fixed, no other counts
-- than theirs and lower ones, and the new one's is among the unflushed writes alone.
pub record IsBetween (size t flushed new_flushed : ℕ) (m : Moment) (old new : View) : Type 0 where
  pub old_laid : IsLaid size t flushed m old
  pub new_laid : IsLaid size t new_flushed m new
  pub slot : HasFixedSlot size m old
  pub above : old.u.group < new.u.group
  pub other_slot : slot_of old.u.group ≢ slot_of new.u.group
  pub slots : AreSlotsKnown size t (handed m) old.u.group (λ content. (content ≡ old.slot) ⊎ (content ≡ new.slot))
  pub kept_slots : AreSlotsKnown size t m.kept old.u.group (λ content. content ≡ old.slot)

-- at rest on the old view, between the two, or at rest on the new one
abbrev pub IsPhase : ℕ → ℕ → ℕ → ℕ → Moment → View → View → Type 0
IsPhase size t flushed new_flushed m old new = IsAtRest size t flushed m old ⊎ (IsBetween size t flushed new_flushed m old new ⊎ IsAtRest size t new_flushed m new)

-- no config of the pool that counts is of a group that an import of this view may reach, except for the one that it
-- writes, with the name of what it mounts
abbrev pub AreConfigsBelowImport : ℕ → ℕ → List Write → View → List ℕ → Type 0
AreConfigsBelowImport size t ws v name = AreConfigsUpTo size t ws v.u.guid (v.u.group + 3) (λ group content. (group ≡ v.u.group + 4) × (content ≡ config_content size v.u.guid group name))

-- an image that is certain is one that this pool alone has written since its create, mounts these contents, and has
-- room for its import
pub record IsOwnImage (size t : ℕ) (image : List ℕ) (m : Moment) (guid : ℕ) (contents : Contents) : Type 0 where
  pub v : View
  pub guid_is : v.u.guid ≡ guid
  -- so many of its log blocks have all records that end in it, and these are fixed
  pub flushed : ℕ
  pub all : (n : ℕ) → flushed ≤ n → ended_in (take n v.logged) ≡ ended_in v.logged
  pub rest : IsAtRest size t flushed (settled image m) v
  pub configs : AreConfigsBelowImport size t (handed (settled image m)) v contents.name
  pub applied : apply_above v.u.group (ended_in v.logged) v.synced ≡ Ok contents
  pub room : HasImportRoom (block_count size) v

-- A disk was written by this pool alone since its create, which began at this moment: what a read gives is fair, and
-- every fair image is the pool's own with these contents.
pub record IsOwnWith (disk : Disk) (created guid : ℕ) (contents : Contents) : Type 0 where
  pub began : created ≤ moments disk
  pub left : LeavesFairNow disk created (λ image. IsOwnImage (disk_size disk) created image disk.now guid contents)

-- all that counts of a new pool's create, whose config and uberblock are those of this view: each write begins with
-- zeros, or is one of the two
abbrev pub AreFirstWrites : ℕ → List Write → View → Type 0
AreFirstWrites t ws v = (place : ℕ) (content : List ℕ) → HandedSince t ws place content → (number_at content 0 ≡ 0) ⊎ ((content ≡ v.config) ⊎ (content ≡ v.slot))

-- each place that the format checks begins with zeros, or has bytes that were handed whole for it
abbrev pub AreHandedOrZero : ℕ → ℕ → Moment → Type 0
AreHandedOrZero size t m = (place n : ℕ) → IsCheckedPlace size place n
    → (number_at (part (bytes_of m) place n) 0 ≡ 0) ⊎ HandedSince t (handed m) place (part (bytes_of m) place n)

-- What a create leaves: all is flushed, the config and the uberblock of the view of a new pool stand in a label each,
-- and the tree of its objects; only first writes count, and each place that the format checks begins with zeros or was
-- handed whole.
pub record IsCreatedDisk (size t : ℕ) (m : Moment) (v : View) : Type 0 where
  pub view : IsView size v
  pub no_log : v.logged ≡ []
  pub size_is : length (bytes_of m) ≡ size
  pub flushed : m.unflushed ≡ []
  pub config : HasFixedConfig size m v
  pub slot : HasFixedSlot size m v
  pub tree : HoldsTree (bytes_of m) (view_frame size v) v.pointers v.synced.objects
  pub first : AreFirstWrites t (handed m) v
  pub places : AreHandedOrZero size t m
  pub room : HasImportRoom (block_count size) v
