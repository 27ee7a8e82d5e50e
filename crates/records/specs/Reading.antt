-- The record at the front of some bytes, read from left to right.
use Rattle.std.specs.Prelude.{◌≡◌, Bool, not, ℕ, zero, suc, ◌-◌, ◌==◌, ◌||◌, List, [], ◌∷◌, length, take, drop, Option, Some, None, Result, Ok, Err, nat_lt, if◌then◌else◌}
use Rattle.std.specs.Int.{Width, w16, w32, w64, byte_len, from_le_bytes}
use Rattle.base.specs.declared.operation.Op.{Op}
use Rattle.base.specs.declared.operation.Op.TheVariants.{Create, Remove, Write, SetLength, SetName}
use Rattle.base.specs.formats.Limits.{last_number, max_log_record}
use Rattle.base.specs.formats.Records.{Record}
use Rattle.records.specs.declared.reading.ReadError.{ReadError}
use Rattle.records.specs.declared.reading.ReadError.TheVariants.{NoMemory, NoRecord}
use Rattle.records.specs.Records.{is_op_allowed}

infixl 10 ◌>>=◌
abbrev pub ◌>>=◌ : {A B : Type 0} → Option A → (A → Option B) → Option B
(Some x) >>= f = f x
None >>= f = None

-- what a call returned, seen by view, is what reading gives, unless memory ran out
abbrev pub Fails : {Y : Type 0} → ReadError → Option Y → Type 0
Fails NoMemory read = Unit {0}
Fails NoRecord read = read ≡ None

abbrev pub Gives : {X Y : Type 0} → (X → Y) → Result X ReadError → Option Y → Type 0
Gives view (Ok x) read = read ≡ Some (view x)
Gives view (Err e) read = Fails e read

-- Each of these gives what it reads and the bytes after it: so many bytes,
abbrev pub split_at : ℕ → List ℕ → Option (List ℕ × List ℕ)
split_at count bytes = if nat_lt (length bytes) count then None else Some (take count bytes, drop count bytes)

-- a number,
abbrev pub number_in : Width → List ℕ → Option (ℕ × List ℕ)
number_in w bytes = if nat_lt (length bytes) (byte_len w) then None else Some (from_le_bytes w (take (byte_len w) bytes), drop (byte_len w) bytes)

-- bytes after their number,
unfoldable pub string_in : List ℕ → Option (List ℕ × List ℕ)
string_in bytes = do
  count ← number_in w32 bytes
  split_at count.0 count.1

-- the fields of each kind of operation,
unfoldable pub create_in : List ℕ → Option (Op × List ℕ)
create_in bytes = do
  n ← number_in w32 bytes
  Some (Create (record { 0 = n.0 }), n.1)

unfoldable pub remove_in : List ℕ → Option (Op × List ℕ)
remove_in bytes = do
  n ← number_in w32 bytes
  Some (Remove (record { 0 = n.0 }), n.1)

unfoldable pub write_in : List ℕ → Option (Op × List ℕ)
write_in bytes = do
  n ← number_in w32 bytes
  offset ← number_in w64 n.1
  content ← string_in offset.1
  Some (Write (record { 0 = n.0 }) offset.0 content.0, content.1)

unfoldable pub set_length_in : List ℕ → Option (Op × List ℕ)
set_length_in bytes = do
  n ← number_in w32 bytes
  new ← number_in w64 n.1
  Some (SetLength (record { 0 = n.0 }) new.0, new.1)

unfoldable pub set_name_in : List ℕ → Option (Op × List ℕ)
set_name_in bytes = do
  name ← string_in bytes
  Some (SetName name.0, name.1)

-- those of the kind that a tag says,
unfoldable pub tagged_in : ℕ → List ℕ → Option (Op × List ℕ)
tagged_in tag bytes =
    if tag == 1 then create_in bytes
    else (if tag == 2 then remove_in bytes
    else (if tag == 3 then write_in bytes
    else (if tag == 4 then set_length_in bytes
    else (if tag == 5 then set_name_in bytes else None))))

-- an operation within its limits,
unfoldable pub op_in : List ℕ → Option (Op × List ℕ)
op_in [] = None
op_in (tag ∷ bytes) = do
  op ← tagged_in tag bytes
  if is_op_allowed op.0 then Some op else None

-- and so many of them
unfoldable pub ops_in : ℕ → List ℕ → Option (List Op × List ℕ)
ops_in zero bytes = Some ([], bytes)
ops_in (suc n) bytes = do
  first ← op_in bytes
  others ← ops_in n first.1
  Some (first.0 ∷ others.0, others.1)

-- whether a record's group, ordinal or number of operations is outside its limits, or bytes stand after its operations
abbrev pub is_body_refused : ℕ → ℕ → ℕ → List ℕ → Bool
is_body_refused group ordinal count rest = nat_lt last_number group || nat_lt last_number ordinal || (count == 0) || not (length rest == 0)

-- the record of which these are all the bytes after its length
unfoldable pub body_in : List ℕ → Option Record
body_in bytes = do
  group ← number_in w64 bytes
  ordinal ← number_in w64 group.1
  count ← number_in w16 ordinal.1
  ops ← ops_in count.0 count.1
  if is_body_refused group.0 ordinal.0 count.0 ops.1 then None else Some (record { group = group.0; ordinal = ordinal.0; ops = ops.0 })

-- the record at the front, by its length, and the bytes after it
unfoldable pub record_in : List ℕ → Option (Record × List ℕ)
record_in bytes = do
  size ← number_in w32 bytes
  parts ← (if nat_lt max_log_record size.0 then None else split_at (size.0 - 4) size.1)
  body ← body_in parts.0
  Some (body, parts.1)
