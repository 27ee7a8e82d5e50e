-- Log records: their one spelling and their limits.
use Rattle.std.specs.Prelude.{ℕ, ◌≡◌, ◌≤◌, ◌+◌, Bool, true, List, ◌∷◌, ◌++◌, map, length, nat_le, nat_lt}
use Rattle.std.specs.List.{flat_map, list_all}
use Rattle.std.specs.Int.{to_le_bytes, w16, w32, w64}
use Rattle.base.specs.declared.operation.Op.{Op}
use Rattle.base.specs.declared.operation.Op.TheVariants.{Create, Remove, Write, SetLength, SetName}
use Rattle.base.specs.declared.operation.Shape.{Shape}
use Rattle.base.specs.declared.operation.Shape.TheVariants as shape
use Rattle.base.specs.formats.Limits.{last_number, max_log_record, one_level_length}
use Rattle.base.specs.formats.Names.{is_name}
use Rattle.base.specs.history.Plans.{shape_of, is_plan_allowed, log_record_size}

-- a committed transaction as the log has it
pub record Record : Type 0 where
  pub group : ℕ
  pub ordinal : ℕ
  pub ops : List Op

abbrev pub op_bytes : Op → List ℕ
op_bytes (Create n) = 1 ∷ to_le_bytes w32 n.0
op_bytes (Remove n) = 2 ∷ to_le_bytes w32 n.0
op_bytes (Write n offset bytes) = 3 ∷ to_le_bytes w32 n.0 ++ to_le_bytes w64 offset ++ to_le_bytes w32 (length bytes) ++ bytes
op_bytes (SetLength n new) = 4 ∷ to_le_bytes w32 n.0 ++ to_le_bytes w64 new
op_bytes (SetName bytes) = 5 ∷ to_le_bytes w32 (length bytes) ++ bytes

-- how many bytes a record has
abbrev pub size_of : Record → ℕ
size_of r = log_record_size (map shape_of r.ops)

-- its bytes: length, group, ordinal, number of operations, operations
abbrev pub bytes_of_record : Record → List ℕ
bytes_of_record r = to_le_bytes w32 (size_of r) ++ to_le_bytes w64 r.group ++ to_le_bytes w64 r.ordinal ++ to_le_bytes w16 (length r.ops) ++ flat_map op_bytes r.ops

abbrev pub bytes_of_records : List Record → List ℕ
bytes_of_records records = flat_map bytes_of_record records

-- whether an operation's bytes are bytes, and a name's are a name
abbrev pub is_content_allowed : Op → Bool
is_content_allowed (Create n) = true
is_content_allowed (Remove n) = true
is_content_allowed (Write n offset bytes) = list_all (λ b. nat_lt b 256) bytes
is_content_allowed (SetLength n new) = true
is_content_allowed (SetName bytes) = is_name bytes

-- a record is within its limits
pub record IsAllowed (r : Record) : Type 0 where
  pub group : r.group ≤ last_number
  pub ordinal : r.ordinal ≤ last_number
  pub shapes : is_plan_allowed (map shape_of r.ops) ≡ true
  pub contents : list_all is_content_allowed r.ops ≡ true
  pub size : size_of r ≤ max_log_record

-- whether a shape ends within the bytes that one level of indirect blocks holds
abbrev pub is_one_level_shape : Shape → Bool
is_one_level_shape (shape.Create n) = true
is_one_level_shape (shape.Remove n) = true
is_one_level_shape (shape.Write n offset count) = nat_le (offset + count) one_level_length
is_one_level_shape (shape.SetLength n new) = nat_le new one_level_length
is_one_level_shape (shape.SetName count) = true

-- each operation of a record does: version 1 has no other records
abbrev pub is_one_level_op : Op → Bool
is_one_level_op op = is_one_level_shape (shape_of op)

abbrev pub IsOneLevelRecord : Record → Type 0
IsOneLevelRecord r = list_all is_one_level_op r.ops ≡ true

-- the front of the bytes is a record, and the rest is what follows it
pub record IsDecoded (bytes : List ℕ) (r : Record) (rest : List ℕ) : Type 0 where
  pub allowed : IsAllowed r
  pub spelled : bytes ≡ bytes_of_record r ++ rest

-- no front of the bytes is a record
abbrev pub HasNoRecord : List ℕ → Type 0
HasNoRecord bytes = (r : Record) (rest : List ℕ) → IsDecoded bytes r rest → ⊥
