-- What the operations of a group do to the objects, in their order.
use Rattle.std.specs.Prelude.{ℕ, ◌≡◌, ◌<◌, ◌+◌, ◌==◌, ◌&&◌, ◌||◌, Bool, true, false, List, [], All, Ok, filter, is_some, length, max, nat_lt, unwrap_or, if◌then◌else◌}
use Rattle.std.specs.List.{flat_map, list_any}
use Rattle.std.specs.Option.{option_map_or}
use Rattle.std.specs.FinMap as finite
use Rattle.base.specs.declared.names.ObjectId.{ObjectId}
use Rattle.base.specs.declared.operation.Op.{Op}
use Rattle.base.specs.declared.operation.Op.TheVariants.{Create, Remove, Write, SetLength, SetName}
use Rattle.base.specs.declared.record_state.RecordState.{RecordState}
use Rattle.base.specs.declared.record_state.RecordState.TheVariants.{Unchanged, Dirty, Hole}
use Rattle.base.specs.formats.Limits.{record_count}
use Rattle.base.specs.history.Contents.{Contents, length_of}
use Rattle.base.specs.history.History.{apply_all}
use Rattle.base.specs.history.Plans.{IsRange, ranges, touched}
use Rattle.base.specs.tree.Syncs.{is_change_of, is_on, is_record_touched, record_state, state_after_cut}
use Rattle.tree_blocks.specs.declared.tree.ObjectEntry.{ObjectEntry}
use Rattle.tree_blocks.specs.Lengths.{length_in}
use Rattle.tree_plans.specs.declared.changes.ObjectChanges.{ObjectChanges}
use Rattle.records.specs.declared.record.Record.{Record}
use Rattle.tree_plans.specs.Pointers.{entry_of}
use Rattle.tree_plans.specs.Changes.{is_changed_in, state_in}

-- the operations of a group's transactions, in order
abbrev pub pending_ops : ℕ → List Record → List Op
pending_ops group pending = flat_map (λ (c : Record). c.ops) (filter (λ (c : Record). c.group.0 == group) pending)

-- the length of an object by its changes so far, or as the tree before them has it
abbrev pub length_so_far : List ObjectEntry → List (ObjectId × ObjectChanges) → ℕ → ℕ
length_so_far maps objects n = option_map_or (λ (changes : ObjectChanges). changes.length) (entry_of objects n) (unwrap_or (length_in maps n) 0)

-- the length of object n after an operation, from the one before it
abbrev pub length_with : ℕ → Op → ℕ → ℕ
length_with n (Create m) old = if m.0 == n then 0 else old
length_with n (Remove m) old = if m.0 == n then 0 else old
length_with n (Write m offset bytes) old = if m.0 == n then max old (offset + length bytes) else old
length_with n (SetLength m new) old = if m.0 == n then new else old
length_with n (SetName bytes) old = old

-- the state of record r of object n after an operation, if the object had this length before it
abbrev pub marked_after : ℕ → ℕ → Op → ℕ → RecordState → RecordState
marked_after n r (Create m) old state = if m.0 == n then Hole else state
marked_after n r (Remove m) old state = if m.0 == n then Hole else state
marked_after n r (Write m offset bytes) old state = if (m.0 == n) && is_record_touched r offset (length bytes) then Dirty else state
marked_after n r (SetLength m new) old state = if (m.0 == n) && nat_lt new old then state_after_cut r new state else state
marked_after n r (SetName bytes) old state = state

-- entries after one operation more
pub record NotesOp (op : Op) (maps : List ObjectEntry) (old new : List (ObjectId × ObjectChanges)) : Type 0 where
  pub there : (n : ℕ) → is_some (entry_of new n) ≡ (is_on n op || is_some (entry_of old n))
  pub changed : (n : ℕ) → is_changed_in new n ≡ (is_change_of n op || is_changed_in old n)
  pub states : (n r : ℕ) → r < record_count → state_in new n r ≡ marked_after n r op (length_so_far maps old n) (state_in old n r)
  pub sizes : IsRange (touched op) → (n : ℕ) → length_so_far maps new n ≡ length_with n op (length_so_far maps old n)

-- the length of an object, 0 if it is absent
abbrev pub object_size : Contents → ℕ → ℕ
object_size c n = length (unwrap_or (finite.get c.objects n) [])

-- whether an operation sets the length of an object
abbrev pub sets_length : ℕ → Op → Bool
sets_length n (Create m) = false
sets_length n (Remove m) = false
sets_length n (Write m offset bytes) = false
sets_length n (SetLength m new) = m.0 == n
sets_length n (SetName bytes) = false

-- if operations set the length of an object, the tree has its length in these contents
abbrev pub IsLengthTold : List Op → List ObjectEntry → Contents → ℕ → Type 0
IsLengthTold ops maps c n = list_any (sets_length n) ops ≡ true → length_in maps n ≡ length_of c n

-- Entries of exactly the objects that operations are on. From contents on which the operations take place, each record
-- has the state that the definitions give it. If an operation sets the length of its object, the tree has to have the
-- length before it.
pub record AreChangesOf (ops : List Op) (maps : List ObjectEntry) (objects : List (ObjectId × ObjectChanges)) : Type 0 where
  pub there : (n : ℕ) → is_some (entry_of objects n) ≡ list_any (is_on n) ops
  pub changed : (n : ℕ) → is_changed_in objects n ≡ list_any (is_change_of n) ops
  pub states : (before after : Contents) → apply_all ops before ≡ Ok after → All IsRange (ranges ops)
      → (n r : ℕ) → r < record_count → IsLengthTold ops maps before n → state_in objects n r ≡ record_state n r ops before Unchanged

-- and the length of each object of which the tree has the one before them is the one after them
pub record AreToldSoFar (ops : List Op) (maps : List ObjectEntry) (objects : List (ObjectId × ObjectChanges)) : Type 0 where
  pub changes : AreChangesOf ops maps objects
  pub sizes : (before after : Contents) → apply_all ops before ≡ Ok after → All IsRange (ranges ops)
      → (n : ℕ) → length_in maps n ≡ length_of before n → length_so_far maps objects n ≡ object_size after n
