-- The blocks of an area that no pointer of a tree names. Those that are named are taken one after another.
use Rattle.std.specs.Prelude.{ℕ, ◌≡◌, ◌<◌, ◌==◌, ◌&&◌, ◌↔◌, ◌⊎◌, Bool, List, true, not, IsTrue}
use Rattle.std.specs.List.{list_any}
use Rattle.std.specs.FinSet as set
use Rattle.base.specs.declared.pointer.Pointer.{Pointer}
use Rattle.base.specs.formats.Geometry.{block_address}
use Rattle.base.specs.formats.Limits.{object_count, pointer_count}
use Rattle.base.specs.tree.Places.{Place, IsPlace}
use Rattle.tree_blocks.specs.declared.tree.ObjectEntry.{ObjectEntry}
use Rattle.tree_blocks.specs.declared.tree.Tree.{Tree}
use Rattle.tree_blocks.specs.Pointers.{ObjectPointers, object_pointers, payload_pointers, pointers_of, strip_in, told_record}
use Rattle.space.specs.FreeSets.{AreBlockAddresses, FreeSpace, IsIdle, is_free}

-- whether this is the address of the k-th block
abbrev pub is_block_at : ℕ → ℕ → Bool
is_block_at k address = address == block_address k

-- whether a pointer names the k-th block, and whether one of a payload's does
abbrev pub names_block : ℕ → Pointer → Bool
names_block k pointer = is_block_at k pointer.address

abbrev pub payload_names : ℕ → List ℕ → Bool
payload_names k payload = list_any (names_block k) (payload_pointers payload)

-- a pointer names the k-th block
abbrev pub Names : ℕ → Pointer → Type 0
Names k pointer = pointer.address ≡ block_address k

-- one of a strip's pointers does: that to its indirect block, or one to a record
abbrev pub StripNames : ℕ → Pointer → (ℕ → Pointer) → Type 0
StripNames k indirect record_at = Names k indirect ⊎ ((r : ℕ) × (r < pointer_count) × Names k (record_at r))

-- one of those of so many strips, as they are told
abbrev pub StripsName : ℕ → List (ℕ × (Pointer × List Pointer)) → ℕ → Type 0
StripsName k strips count = (j : ℕ) × (j < count) × StripNames k (strip_in strips j).0 (told_record (strip_in strips j))

-- one of an object's
abbrev pub ObjectNames : ℕ → ObjectPointers → Type 0
ObjectNames k p = Names k p.top ⊎ ((j : ℕ) × (j < pointer_count) × StripNames k (p.strip j) (p.record_at j))

-- one of a tree's
abbrev pub TreeNames : ℕ → Tree → Type 0
TreeNames k tree = (place : Place) × IsPlace place × Names k (pointers_of tree place)

-- of a set's blocks those of these numbers are taken, and nothing else has changed
pub record BlocksTaken (is_taken : ℕ → Bool) (old new : FreeSpace) : Type 0 where
  pub each : (k : ℕ) → k < old.blocks → is_free k new ≡ (is_free k old && not (is_taken k))
  pub fewer : (address : ℕ) → set.contains new.free address ≡ true → set.contains old.free address ≡ true
  pub rest : new ≡ record old { free = new.free }

-- the same, where what is taken is what is named
pub record TakesNamed (IsNamed : ℕ → Type 0) (old new : FreeSpace) : Type 0 where
  pub each : (k : ℕ) → k < old.blocks → IsTrue (is_free k new) ↔ (IsTrue (is_free k old) × (IsNamed k → ⊥))
  pub fewer : (address : ℕ) → set.contains new.free address ≡ true → set.contains old.free address ≡ true
  pub rest : new ≡ record old { free = new.free }

-- of an area of so many blocks, with nothing reserved, those are free that are not named
pub record AreFreeBut (IsNamed : ℕ → Type 0) (blocks : ℕ) (free : FreeSpace) : Type 0 where
  pub sized : free.blocks ≡ blocks
  pub placed : AreBlockAddresses free
  pub idle : IsIdle free
  pub each : (k : ℕ) → k < blocks → IsTrue (is_free k free) ↔ (IsNamed k → ⊥)

-- those that no pointer of these entries names
abbrev pub AreMarked : List ObjectEntry → ℕ → FreeSpace → Type 0
AreMarked entries = AreFreeBut (λ k. (n : ℕ) × (n < object_count) × ObjectNames k (object_pointers entries n))

-- those that no pointer of a tree names
abbrev pub AreUnnamed : ℕ → Tree → FreeSpace → Type 0
AreUnnamed blocks tree free = AreFreeBut (λ k. TreeNames k tree) blocks free
