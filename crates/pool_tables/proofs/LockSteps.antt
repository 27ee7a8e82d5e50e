-- Range locks and the transactions that keep to them, step by step.
use Rattle.std.proofs.Common.{ℕ, ◌≡◌, true, false, [], ◌∷◌, ◌++◌, length, refl, ap}
use Rattle.std.specs.Prelude.{Option, Some, None, Result, Ok, Err, ◌↔◌, IfOk, IsOk, IsSome, OnErr, OnOk}
use Rattle.base.specs.declared.error.PoolError.{PoolError}
use Rattle.base.specs.declared.error.PoolError.TheVariants as error
use Rattle.base.specs.declared.names.LockId.{LockId}
use Rattle.base.specs.declared.names.ObjectId.{ObjectId}
use Rattle.base.specs.declared.names.Owner.{Owner}
use Rattle.base.specs.declared.range.Mode.{Mode}
use Rattle.base.specs.declared.range.Mode.TheVariants.{Writer}
use Rattle.base.specs.declared.range.Range.{Range}
use Rattle.base.specs.history.Contents.{length_of}
use Rattle.base.specs.history.Plans.{NumberRange}
use Rattle.base.specs.steps.Locks.{Grant}
use Rattle.base.specs.steps.Refusals.{append_range, append_refusal, lock_refusal, lock_of, is_lock_in_use, unlock_refusal}
use Rattle.base.specs.steps.Shown.{Shown}
use Rattle.base.specs.steps.Steps.{Lock, LockAppend, Unlock, next_grant}
use Rattle.range_locks.specs.Locks as locks
use Rattle.range_locks.specs.Locks.{LockTable}
use Rattle.pool_tables.specs.Meets.{Meets}
use Rattle.pool_tables.specs.StepAnswers.{appended_numbers, lock_number}
use Rattle.pool_tables.specs.Tables.{result_map}

-- the locks that are shown and the name of the next one, and these in their place
abbrev shown_held : Shown → LockTable
shown_held s = record { locks = s.locks; next = s.next_lock }

abbrev with_held : LockTable → Shown → Shown
with_held held s = record s { locks = held.locks; next_lock = held.next }

pub lock_suspended : (owner : ℕ) (t : NumberRange) (mode : Mode) (s : Shown) → s.suspended ≡ true → Meets (Lock owner t mode) (Err error.Suspended) s s
lock_suspended owner t mode s h = λ past. (past, rw h (refl, refl))

lock_by : (r : Option PoolError) (owner : Owner) (t : NumberRange) (mode : Mode) (answer : Result LockId PoolError) (s : Shown) (new : LockTable)
    → lock_refusal owner.0 t mode s ≡ r → locks.AnswersBy r answer → IfOk answer (λ id. locks.GrantsOne id owner t mode (shown_held s) new)
    → OnErr answer (new ≡ shown_held s) → Meets (Lock owner.0 t mode) (result_map lock_number answer) s (with_held new s)
lock_by (Some e) owner t mode (Ok id) s new r told granted same = absurd (let no_way : Ok id ≡ Err e = told in cc)
lock_by (Some e) owner t mode (Err x) s new r told granted same = λ past. (past, rw r (ap (result_map lock_number) told, rw same refl))
lock_by None owner t mode (Ok id) s new r told granted same =
    λ past. (record past { grants = past.grants ++ next_grant owner.0 t mode s ∷ [] }, rw r (granted.name, rw granted.granted refl))
lock_by None owner t mode (Err x) s new r told granted same = λ past. (past, rw r (told, rw same refl))

-- A lock that is granted or refused by what is held is so by what is shown.
pub lock_ends : (owner : Owner) (t : NumberRange) (mode : Mode) (answer : Result LockId PoolError) (s : Shown) (new : LockTable)
    → s.suspended ≡ false → locks.AnswersBy (locks.first_lock_refusal t mode (shown_held s)) answer → IfOk answer (λ id. locks.GrantsOne id owner t mode (shown_held s) new)
    → OnErr answer (new ≡ shown_held s) → Meets (Lock owner.0 t mode) (result_map lock_number answer) s (with_held new s)
lock_ends owner t mode answer s new h told granted same = lock_by (locks.first_lock_refusal t mode (shown_held s)) owner t mode answer s new (rw h refl) told granted same

pub append_suspended : (owner n : ℕ) (s : Shown) → s.suspended ≡ true → Meets (LockAppend owner n) (Err error.Suspended) s s
append_suspended owner n s h = λ past. (past, rw h (refl, refl))

-- the numbers of an append lock in this range
abbrev IsAppended : ℕ × ℕ × ℕ → ℕ → NumberRange → Type 0
IsAppended a name range = a ≡ (name, range.low, range.high)

append_by : (r : Option PoolError) (owner : Owner) (object : ObjectId) (answer : Result (LockId × Range) PoolError) (s : Shown) (new : LockTable)
    → append_refusal owner.0 object.0 s ≡ r → locks.AnswersBy r answer
    → IfOk answer (λ a. locks.Appends a.0 a.1 owner object (length_of s.contents object.0) (shown_held s) new)
    → OnErr answer (new ≡ shown_held s) → Meets (LockAppend owner.0 object.0) (result_map appended_numbers answer) s (with_held new s)
append_by (Some e) owner object (Ok a) s new r told granted same = absurd (let no_way : Ok a ≡ Err e = told in cc)
append_by (Some e) owner object (Err x) s new r told granted same = λ past. (past, rw r (ap (result_map appended_numbers) told, rw same refl))
append_by None owner object (Ok (id, range)) s new r told granted same =
    λ past. (record past { grants = past.grants ++ next_grant owner.0 (append_range object.0 s) Writer s ∷ [] }, rw r (numbers, rw granted.grants.granted refl))
  where
    numbers : IsAppended (id.0, range.low, range.high) s.next_lock (append_range object.0 s)
    numbers = rw (granted.from_end, granted.grants.name, granted.to_top) refl
append_by None owner object (Err x) s new r told granted same = λ past. (past, rw r (told, rw same refl))

-- And so is an append lock, by the length that is shown.
pub append_ends : (owner : Owner) (object : ObjectId) (length : Option ℕ) (answer : Result (LockId × Range) PoolError) (s : Shown) (new : LockTable)
    → s.suspended ≡ false → length ≡ length_of s.contents object.0 → locks.AnswersBy (locks.first_append_refusal object.0 length (shown_held s)) answer
    → IfOk answer (λ a. locks.Appends a.0 a.1 owner object length (shown_held s) new)
    → OnErr answer (new ≡ shown_held s) → Meets (LockAppend owner.0 object.0) (result_map appended_numbers answer) s (with_held new s)
append_ends owner object length answer s new h is told granted same =
    append_by (locks.first_append_refusal object.0 (length_of s.contents object.0) (shown_held s)) owner object answer s new (rw h refl) (rw is at told) (rw is at granted) same

pub unlock_suspended : (owner id : ℕ) (s : Shown) → s.suspended ≡ true → Meets (Unlock owner id) (Err error.Suspended) s s
unlock_suspended owner id s h = λ past. (past, rw h (refl, refl))

pub unlock_none : (owner id : ℕ) (s : Shown) → s.suspended ≡ false → lock_of owner id s ≡ None → Meets (Unlock owner id) (Err error.NoSuchLock) s s
unlock_none owner id s h none = λ past. (past, let e : unlock_refusal owner id s ≡ Some error.NoSuchLock = rw (h, none) refl in rw e (refl, refl))

pub unlock_used : (owner id : ℕ) (g : Grant) (s : Shown) → s.suspended ≡ false → lock_of owner id s ≡ Some g → is_lock_in_use g s ≡ true → Meets (Unlock owner id) (Err error.LockInUse) s s
unlock_used owner id g s h some used = λ past. (past, let e : unlock_refusal owner id s ≡ Some error.LockInUse = rw (h, some, used) refl in rw e (refl, refl))

pub unlock_ends : (owner id : ℕ) (g : Grant) (answer : Result (Unit {0}) PoolError) (s : Shown) (new : LockTable)
    → s.suspended ≡ false → lock_of owner id s ≡ Some g → is_lock_in_use g s ≡ false
    → (IsOk answer ↔ IsSome (lock_of owner id s)) → OnOk answer (new ≡ locks.without id (shown_held s)) → Meets (Unlock owner id) answer s (with_held new s)
unlock_ends owner id g (Ok done) s new h some unused found same =
    λ past. (record past { let_go = past.let_go ++ id ∷ [] }, let none : unlock_refusal owner id s ≡ None = rw (h, some, unused) refl in rw none (rw same refl))
unlock_ends owner id g (Err e) s new h some unused found same = absurd (let no_way : false ≡ true = found.1 (rw some refl) in cc)
