-- Frames of requests: their bytes and their limits.
use Rattle.std.specs.Prelude.{ℕ, ◌≡◌, ◌+◌, ◌-◌, ◌*◌, ◌^◌, ◌≤◌, ◌<◌, All, List, [], ◌∷◌, ◌++◌, length, min, sum_by}
use Rattle.std.specs.List.{flat_map}
use Rattle.std.specs.Int.{to_le_bytes, w16, w32, w64}
use Rattle.base.specs.formats.Limits.{max_length, object_count}
use Rattle.base.specs.formats.Records.{IsAllowed, bytes_of_record}
use Rattle.frames.specs.Limits.{frame_head, frame_version, least_room, listed_size, max_frame, requests_kind}
use Rattle.frames.specs.declared.request.Call.{Call}
use Rattle.frames.specs.declared.request.Call.TheVariants.{Transact, TransactDurably, Read, Length, Objects, Status, Durable, Flush, Sync, Name}
use Rattle.frames.specs.declared.request.Request.{Request}
use Rattle.records.specs.Records.{record_fields}

-- the number of a call
abbrev pub number_of_call : Call → ℕ
number_of_call (Transact r) = 1
number_of_call (TransactDurably r) = 2
number_of_call (Read object range) = 3
number_of_call (Length object) = 4
number_of_call (Objects first past) = 5
number_of_call Status = 6
number_of_call (Durable r) = 7
number_of_call Flush = 8
number_of_call Sync = 9
number_of_call Name = 10

-- the bytes of what a call needs
abbrev pub bytes_of_call : Call → List ℕ
bytes_of_call (Transact r) = bytes_of_record (record_fields r)
bytes_of_call (TransactDurably r) = bytes_of_record (record_fields r)
bytes_of_call (Read object range) = to_le_bytes w32 object.0 ++ to_le_bytes w64 range.low ++ to_le_bytes w64 range.high
bytes_of_call (Length object) = to_le_bytes w32 object.0
bytes_of_call (Objects first past) = to_le_bytes w32 first.0 ++ to_le_bytes w32 past.0
bytes_of_call Status = []
bytes_of_call (Durable r) = to_le_bytes w64 r.ordinal.0 ++ to_le_bytes w64 r.group.0
bytes_of_call Flush = []
bytes_of_call Sync = []
bytes_of_call Name = []

-- the bytes of a request: its number, that of its call, and what the call needs
abbrev pub bytes_of_request : Request → List ℕ
bytes_of_request r = to_le_bytes w64 r.number ++ number_of_call r.call ∷ bytes_of_call r.call

-- a frame of some kind with so many items of these bytes: its length, the version, its kind, how many, and these
abbrev pub bytes_of_frame : ℕ → ℕ → List ℕ → List ℕ
bytes_of_frame kind count items = to_le_bytes w32 (frame_head + length items) ++ to_le_bytes w16 frame_version ++ to_le_bytes w16 kind ++ to_le_bytes w32 count ++ items

-- the bytes of all requests, and of a frame of them
abbrev pub bytes_of_all : List Request → List ℕ
bytes_of_all requests = flat_map bytes_of_request requests

abbrev pub bytes_of_requests : List Request → List ℕ
bytes_of_requests requests = bytes_of_frame requests_kind (length requests) (bytes_of_all requests)

-- the most bytes that the answer to a call has, with some to spare
abbrev pub room_of_call : Call → ℕ
room_of_call (Transact r) = least_room
room_of_call (TransactDurably r) = least_room
room_of_call (Read object range) = least_room + min (range.high - range.low) max_length
room_of_call (Length object) = least_room
room_of_call (Objects first past) = least_room + listed_size * min (past.0 - first.0) object_count
room_of_call Status = least_room
room_of_call (Durable r) = least_room
room_of_call Flush = least_room
room_of_call Sync = least_room
room_of_call Name = least_room

-- and those of the frame of the answers to requests
abbrev pub room_of_answers : List Request → ℕ
room_of_answers requests = frame_head + sum_by (λ (r : Request). room_of_call r.call) requests

-- a call's numbers are of their widths, and its record is within its limits
abbrev pub IsCallAllowed : Call → Type 0
IsCallAllowed (Transact r) = IsAllowed (record_fields r)
IsCallAllowed (TransactDurably r) = IsAllowed (record_fields r)
IsCallAllowed (Read object range) = (object.0 < 2 ^ 32) × (range.low < 2 ^ 64) × (range.high < 2 ^ 64)
IsCallAllowed (Length object) = object.0 < 2 ^ 32
IsCallAllowed (Objects first past) = (first.0 < 2 ^ 32) × (past.0 < 2 ^ 32)
IsCallAllowed Status = Unit {0}
IsCallAllowed (Durable r) = (r.ordinal.0 < 2 ^ 64) × (r.group.0 < 2 ^ 64)
IsCallAllowed Flush = Unit {0}
IsCallAllowed Sync = Unit {0}
IsCallAllowed Name = Unit {0}

-- so it is with a request
pub record IsRequestAllowed (r : Request) : Type 0 where
  pub number : r.number < 2 ^ 64
  pub call : IsCallAllowed r.call

-- Requests may stand in one frame: each is within its limits, and neither the frame nor that of the answers is too
-- long.
pub record AreAllowed (requests : List Request) : Type 0 where
  pub each : All IsRequestAllowed requests
  pub size : frame_head + length (bytes_of_all requests) ≤ max_frame
  pub answers : room_of_answers requests ≤ max_frame

-- the bytes are the frame of these requests
pub record IsFrameOf (bytes : List ℕ) (requests : List Request) : Type 0 where
  pub allowed : AreAllowed requests
  pub spelled : bytes ≡ bytes_of_requests requests
