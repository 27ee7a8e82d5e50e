-- What a put is given, the transactions by which it puts its bytes, what they leave of the object, and what is printed.
use Rattle.std.specs.Prelude.{ℕ, ◌≡◌, ◌≢◌, ◌+◌, ◌-◌, ◌++◌, ◌&&◌, if◌then◌else◌, Bool, IsSome, codes, List, [], ◌∷◌, Option, None, Some, Result, Ok, Err, drop, length, nat_lt, nat_le, take}
use Rattle.std.specs.Fmt.{decimal}
use Rattle.std.specs.FinMap as map
use Rattle.base.specs.declared.error.PoolError.{PoolError}
use Rattle.base.specs.declared.error.PoolError.TheVariants.{NoObject}
use Rattle.base.specs.declared.names.ObjectId.{ObjectId}
use Rattle.base.specs.declared.operation.Op.{Op}
use Rattle.base.specs.declared.operation.Op.TheVariants.{Create, SetLength, Write}
use Rattle.base.specs.formats.Limits.{max_length, object_count}
use Rattle.base.specs.history.Contents.{Contents, bytes_after_write}
use Rattle.base.specs.history.History.{apply_all}
use Rattle.base.specs.history.Sequences.{in_turn}
use Rattle.pool_threads.specs.LongWrites.{piece_size, writes_of}
use Rattle.read_commands.specs.declared.bad_number.BadNumber.{BadNumber}
use Rattle.read_commands.specs.declared.bad_number.BadNumber.TheVariants.{End, LongInput, Object, Offset}
use Rattle.commands.specs.declared.changes.Start.{Start}
use Rattle.commands.specs.declared.changes.Start.TheVariants.{Creates, Empties, Keeps}

-- the first byte that a put writes
abbrev pub first_byte : Option ℕ → ℕ
first_byte None = 0
first_byte (Some offset) = offset

-- an object of this number may have these bytes at this offset
abbrev pub is_target : ℕ → Option ℕ → List ℕ → Bool
is_target object offset bytes = nat_lt object object_count && (nat_le (first_byte offset) max_length && nat_le (length bytes) (max_length - first_byte offset))

-- what is outside its limits, if the object may not have these bytes there
abbrev pub bad_number_of : ℕ → Option ℕ → List ℕ → BadNumber
bad_number_of object offset bytes =
    if nat_le object_count object then Object object
    else (if nat_le max_length (first_byte offset) then Offset (first_byte offset)
    else (if nat_lt max_length (length bytes) then LongInput else End (first_byte offset + length bytes)))

-- How a put starts, by the length that the object was found to have. Without an offset the bytes replace all that it
-- has.
abbrev pub start_of : Option ℕ → Result ℕ PoolError → Result Start PoolError
start_of (Some offset) (Ok found) = Ok Keeps
start_of None (Ok found) = Ok Empties
start_of offset (Err NoObject) = Ok Creates
start_of offset (Err e) = Err e

-- the operation on the object before its first bytes are written
abbrev pub start_ops : Start → ObjectId → List Op
start_ops Creates n = Create n ∷ []
start_ops Empties n = SetLength n 0 ∷ []
start_ops Keeps n = []

-- the write of a piece, unless it has no bytes
abbrev pub write_ops : ObjectId → ℕ → List ℕ → List Op
write_ops n at [] = []
write_ops n at (byte ∷ bytes) = Write n at (byte ∷ bytes) ∷ []

-- the operations of the transaction that puts a piece at this place
abbrev pub piece_ops : Start → ObjectId → ℕ → List ℕ → List Op
piece_ops start n at piece = start_ops start n ++ write_ops n at piece

-- the transactions that write these bytes from this place on: none if there are no bytes
abbrev pub rest_transactions : ObjectId → ℕ → List ℕ → List (List Op)
rest_transactions n at [] = []
rest_transactions n at (byte ∷ bytes) = writes_of n at (byte ∷ bytes)

-- The transactions of a put. If it keeps what the object has, they write the bytes. Else the first one makes or empties
-- the object and writes the first piece, and the others write the rest.
abbrev pub put_transactions : Start → ObjectId → Option ℕ → List ℕ → List (List Op)
put_transactions Keeps n offset bytes = rest_transactions n (first_byte offset) bytes
put_transactions start n offset bytes =
    piece_ops start n (first_byte offset) (take piece_size bytes) ∷ rest_transactions n (first_byte offset + length (take piece_size bytes)) (drop piece_size bytes)

-- a put with an offset doesn't empty the object, and one without replaces what it has
abbrev pub IsStartFor : Option ℕ → Start → Type 0
IsStartFor None start = start ≢ Keeps
IsStartFor (Some offset) start = start ≢ Empties

-- bytes with others written over them, unless there are none
abbrev pub overwritten : ℕ → List ℕ → List ℕ → List ℕ
overwritten offset [] before = before
overwritten offset (byte ∷ bytes) before = bytes_after_write offset (byte ∷ bytes) before

-- the bytes of the object after a put, by those that it had, if it was there: the bytes alone, or at the offset over
-- what it had
abbrev pub bytes_put : Option ℕ → List ℕ → Option (List ℕ) → List ℕ
bytes_put None bytes before = bytes
bytes_put (Some offset) bytes None = overwritten offset bytes []
bytes_put (Some offset) bytes (Some before) = overwritten offset bytes before

-- Whatever contents they are applied to in order, the transactions of a put leave the object with these bytes, and each
-- other object as it was. If the put keeps what the object has, the object is there.
abbrev pub PutsLeaveBytes : Type 0
PutsLeaveBytes = (start : Start) (n : ObjectId) (offset : Option ℕ) (bytes : List ℕ) (before after : Contents) → IsStartFor offset start
    → (start ≡ Keeps → IsSome (map.get before.objects n.0)) → in_turn apply_all (put_transactions start n offset bytes) before ≡ Ok after
    → (map.get after.objects n.0 ≡ Some (bytes_put offset bytes (map.get before.objects n.0)))
    × ((other : ℕ) → other ≢ n.0 → map.get after.objects other ≡ map.get before.objects other)

-- what is printed of a put, and the line of its command and of that which removes an object
abbrev pub put_text : ℕ → ℕ → List ℕ
put_text bytes transactions = decimal bytes ++ (codes " bytes in " ++ (decimal transactions ++ codes " transactions"))

abbrev pub put_line : ℕ → ℕ → List ℕ
put_line bytes transactions = codes "put " ++ (put_text bytes transactions ++ codes "\n")

abbrev pub removed_line : ℕ → List ℕ
removed_line object = codes "removed " ++ (decimal object ++ codes "\n")
