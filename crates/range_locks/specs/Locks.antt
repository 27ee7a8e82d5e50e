-- LockTable range locks, which lock is refused, and what a grant and letting go make of them.
use Rattle.std.specs.Prelude.{ℕ, ◌≡◌, ◌+◌, ◌<◌, ◌≤◌, ◌==◌, ◌&&◌, ◌||◌, ◌++◌, ◌∷◌, [], Bool, not, List, filter, length, slice_get, nat_lt, nat_le, Option, Some, None, is_none, Result, Err, IfErr}
use Rattle.std.specs.List.{list_any}
use Rattle.std.specs.Option.{option_map_or}
use Rattle.base.specs.declared.error.PoolError.{PoolError}
use Rattle.base.specs.declared.error.PoolError.TheVariants.{NoMemory, NoObject, BadRange, Busy, TooMany}
use Rattle.base.specs.declared.names.LockId.{LockId}
use Rattle.base.specs.declared.names.ObjectId.{ObjectId}
use Rattle.base.specs.declared.names.Owner.{Owner}
use Rattle.base.specs.declared.range.Mode.{Mode}
use Rattle.base.specs.declared.range.Mode.TheVariants.{Writer}
use Rattle.base.specs.declared.range.Range.{Range}
use Rattle.base.specs.formats.Limits.{object_count, name_number, max_length, max_locks, last_number}
use Rattle.base.specs.history.Plans.{NumberRange, number_range, overlaps, lies_in}
use Rattle.base.specs.steps.Locks.{Grant, AreLocksSound, is_reader, is_range_allowed, is_blocked}
use Rattle.base.specs.steps.Refusals.{first_refusal, object_range, refused_if}
use Rattle.range_locks.specs.declared.held.HeldLock.{HeldLock}

-- the held locks in order of grant, and the name of the next one, which is the number of grants so far
pub record LockTable : Type 0 where
  pub locks : List Grant
  pub next : ℕ

-- a held lock with its name, as definitions speak of it
abbrev pub grant_of : LockId × HeldLock → Grant
grant_of e = record { id = e.0.0; owner = e.1.owner.0; range = number_range e.1.range; mode = e.1.mode }

-- whether a lock has this name and this owner
abbrev pub is_named : ℕ → ℕ → Grant → Bool
is_named id owner g = (g.id == id) && (g.owner == owner)

-- whether a lock keeps a range from being locked
abbrev pub blocks : NumberRange → Mode → Grant → Bool
blocks range mode g = overlaps g.range range && not (is_reader g.mode && is_reader mode)

-- whether it is one of the owner's that covers a range, or that covers it for writing
abbrev pub covers : ℕ → NumberRange → Grant → Bool
covers owner range g = (g.owner == owner) && lies_in range g.range

abbrev pub covers_for_writing : ℕ → NumberRange → Grant → Bool
covers_for_writing owner range g = not (is_reader g.mode) && covers owner range g

-- whether it is one of the owner's that keeps a range from being locked
abbrev pub blocks_own : ℕ → NumberRange → Mode → Grant → Bool
blocks_own owner range mode g = (g.owner == owner) && blocks range mode g

-- whether a lock that the owner holds itself keeps a range from being locked
abbrev pub is_blocked_by_own : ℕ → NumberRange → Mode → List Grant → Bool
is_blocked_by_own owner range mode locks = list_any (blocks_own owner range mode) locks

-- what is true of held locks at each time: names rise in order of grant up to the next one, ranges are allowed ones
pub record AreHeld (held : LockTable) : Type 0 where
  pub rising : (i j : ℕ) (g h : Grant) → i < j → slice_get held.locks i ≡ Some g → slice_get held.locks j ≡ Some h → g.id < h.id
  pub named : (i : ℕ) (g : Grant) → slice_get held.locks i ≡ Some g → g.id < held.next
  pub allowed : (i : ℕ) (g : Grant) → slice_get held.locks i ≡ Some g → (g.range.low < g.range.high) × (g.range.high ≤ max_length)
  pub sound : AreLocksSound held.locks
  pub count : length held.locks ≤ max_locks
  pub next : held.next ≤ last_number + 1

-- whether one more lock is too many
abbrev pub has_too_many : LockTable → Bool
has_too_many held = nat_le max_locks (length held.locks) || nat_lt last_number held.next

-- why a lock is refused first, want of memory aside
abbrev pub first_lock_refusal : NumberRange → Mode → LockTable → Option PoolError
first_lock_refusal range mode held =
    first_refusal (
    refused_if (nat_lt name_number range.number || not (is_range_allowed range.low range.high)) BadRange
    ∷ refused_if (is_blocked range mode held.locks) Busy
    ∷ refused_if (has_too_many held) TooMany ∷ [])

-- from the end of an object to the top of each range; where there is no such object it does not count
abbrev pub range_from_end : ℕ → Option ℕ → NumberRange
range_from_end object length = object_range object (option_map_or (λ end. end) length 0) max_length

-- why an append lock is refused first, want of memory aside
abbrev pub first_append_refusal : ℕ → Option ℕ → LockTable → Option PoolError
first_append_refusal object length held =
    first_refusal (
    refused_if (nat_le object_count object) BadRange
    ∷ refused_if (is_none length) NoObject
    ∷ refused_if (nat_le max_length (range_from_end object length).low) BadRange
    ∷ refused_if (is_blocked (range_from_end object length) Writer held.locks) Busy
    ∷ refused_if (has_too_many held) TooMany ∷ [])

-- what a call answers by its first refusal: without one it is refused for want of memory alone
abbrev pub AnswersBy : {A : Type 0} → Option PoolError → Result A PoolError → Type 0
AnswersBy (Some e) answer = answer ≡ Err e
AnswersBy None answer = IfErr answer (λ e. e ≡ NoMemory)

-- the locks with one more, under the next name
abbrev pub with_grant : ℕ → NumberRange → Mode → LockTable → LockTable
with_grant owner range mode held = record {
  locks = held.locks ++ record { id = held.next; owner = owner; range = range; mode = mode } ∷ [];
  next = held.next + 1;
}

-- a lock is granted under the next name
pub record GrantsOne (id : LockId) (owner : Owner) (range : NumberRange) (mode : Mode) (old new : LockTable) : Type 0 where
  pub name : id.0 ≡ old.next
  pub granted : new ≡ with_grant owner.0 range mode old

-- a writer lock is granted from the end of an object on
pub record Appends (id : LockId) (range : Range) (owner : Owner) (object : ObjectId) (length : Option ℕ) (old new : LockTable) : Type 0 where
  pub from_end : length ≡ Some range.low
  pub to_top : range.high ≡ max_length
  pub grants : GrantsOne id owner (range_from_end object.0 length) Writer old new

-- the locks without that of a name
abbrev pub without : ℕ → LockTable → LockTable
without id held = record held { locks = filter (λ (g : Grant). not (g.id == id)) held.locks }
