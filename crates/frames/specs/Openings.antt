-- The first frame of a program that serves a pool: its bytes.
use Rattle.std.specs.Prelude.{ℕ, ◌+◌, List, ◌++◌, length, Option, Some, None}
use Rattle.std.specs.Int.{to_le_bytes, w32, w64}
use Rattle.base.specs.declared.error.PoolError.{PoolError}
use Rattle.base.specs.formats.Errors.{number_of_error}
use Rattle.frames.specs.Answers.{bytes_of_string, damaged_address, damaged_kind}
use Rattle.frames.specs.Limits.{frame_head, opened_kind, unopened_kind}
use Rattle.frames.specs.Requests.{bytes_of_frame}
use Rattle.frames.specs.declared.opening.Opening.{Opening}

-- the pool is open: its guid, the group that was synced, and how many log records were replayed
abbrev pub bytes_of_opening : Opening → List ℕ
bytes_of_opening o = bytes_of_frame opened_kind 0 (to_le_bytes w64 o.guid ++ to_le_bytes w64 o.group.0 ++ to_le_bytes w64 o.records)

-- the number of a refusal, and the kind and the address of the block that it tells of; zeros if there is none
abbrev pub number_of_unopened : Option PoolError → ℕ
number_of_unopened (Some e) = number_of_error e
number_of_unopened None = 0

abbrev pub unopened_kind_of : Option PoolError → ℕ
unopened_kind_of (Some e) = damaged_kind e
unopened_kind_of None = 0

abbrev pub unopened_address_of : Option PoolError → ℕ
unopened_address_of (Some e) = damaged_address e
unopened_address_of None = 0

-- it isn't, for this refusal, or since its file can't be used; with the number of the system's error, and the cause
abbrev pub items_of_unopened : Option PoolError → ℕ → List ℕ → List ℕ
items_of_unopened refusal system_error cause = to_le_bytes w64 (unopened_kind_of refusal) ++ to_le_bytes w64 (unopened_address_of refusal) ++ to_le_bytes w32 system_error ++ bytes_of_string cause

abbrev pub bytes_of_unopened : Option PoolError → ℕ → List ℕ → List ℕ
bytes_of_unopened refusal system_error cause = bytes_of_frame unopened_kind (number_of_unopened refusal) (items_of_unopened refusal system_error cause)

-- how many bytes that frame has
abbrev pub size_of_unopened : List ℕ → ℕ
size_of_unopened cause = frame_head + 24 + length cause
