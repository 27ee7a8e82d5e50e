-- The places of held locks: one for each grant, empty where its lock was released.
use Rattle.std.specs.Prelude.{ℕ, ◌≡◌, ◌+◌, ◌*◌, ◌<◌, List, [], ◌∷◌, length, slice_get, Option, Some, None}
use Rattle.base.specs.declared.names.LockId.{LockId}
use Rattle.base.specs.formats.Limits.{max_locks}
use Rattle.range_locks.specs.declared.held.HeldLock.{HeldLock}

-- the held locks with their names, the name of the next one, and how many more fit with no memory
pub record HeldEntries : Type 0 where
  pub entries : List (LockId × HeldLock)
  pub next : ℕ
  pub room : ℕ

-- a place with the locks after it
abbrev pub with_place : LockId → Option HeldLock → List (LockId × HeldLock) → List (LockId × HeldLock)
with_place id None locks = locks
with_place id (Some lock) locks = (id, lock) ∷ locks

-- the locks of the places
abbrev pub held_in : List (LockId × Option HeldLock) → List (LockId × HeldLock)
held_in [] = []
held_in (e ∷ es) = with_place e.0 e.1 (held_in es)

-- names rise along places, up to the next one; so many are taken, and fewer than twice the locks that may be held are
-- empty
pub record ArePlaces (places : List (LockId × Option HeldLock)) (count next : ℕ) : Type 0 where
  pub rising : (i j : ℕ) (e f : LockId × Option HeldLock) → i < j → slice_get places i ≡ Some e → slice_get places j ≡ Some f → e.0.0 < f.0.0
  pub named : (i : ℕ) (e : LockId × Option HeldLock) → slice_get places i ≡ Some e → e.0.0 < next
  pub counted : count ≡ length (held_in places)
  pub swept : length places < count + 2 * max_locks
