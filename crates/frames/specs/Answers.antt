-- Frames of answers, and refusals of frames: their bytes.
use Rattle.std.specs.Prelude.{ℕ, ◌+◌, Bool, true, false, List, [], ◌∷◌, ◌++◌, length, Option, Some, None}
use Rattle.std.specs.List.{flat_map}
use Rattle.std.specs.Int.{to_le_bytes, w32, w64}
use Rattle.base.specs.declared.error.PoolError.{PoolError}
use Rattle.base.specs.declared.error.PoolError.TheVariants.{Damaged}
use Rattle.base.specs.declared.names.Group.{Group}
use Rattle.base.specs.declared.names.Receipt.{Receipt}
use Rattle.base.specs.declared.status.Status.{Status}
use Rattle.base.specs.formats.Errors.{number_of_error}
use Rattle.frames.specs.Limits.{answers_kind, frame_head, refusal_kind}
use Rattle.frames.specs.Requests.{bytes_of_frame}
use Rattle.frames.specs.declared.answer.Answer.{Answer}
use Rattle.frames.specs.declared.answer.Outcome.{Outcome}
use Rattle.frames.specs.declared.answer.Outcome.TheVariants as outcome
use Rattle.frames.specs.declared.error.FrameError.{FrameError}
use Rattle.frames.specs.declared.error.FrameError.TheVariants.{NoMemory, CutOff, BadLength, BadVersion, BadKind, BadCall, BadRecord, Surplus, AnswersTooLong}
use Rattle.frames.specs.declared.listing.Listed.{Listed}

-- the number of the refusal of a frame
abbrev pub number_of_frame_error : FrameError → ℕ
number_of_frame_error NoMemory = 1
number_of_frame_error CutOff = 2
number_of_frame_error BadLength = 3
number_of_frame_error BadVersion = 4
number_of_frame_error BadKind = 5
number_of_frame_error BadCall = 6
number_of_frame_error BadRecord = 7
number_of_frame_error Surplus = 8
number_of_frame_error AnswersTooLong = 9

-- the kind and the address of the block that a refusal tells of, or zeros
abbrev pub damaged_kind : PoolError → ℕ
damaged_kind (Damaged kind address) = kind
damaged_kind e = 0

abbrev pub damaged_address : PoolError → ℕ
damaged_address (Damaged kind address) = address
damaged_address e = 0

-- the bytes of a refusal of the pool: its number, and that kind and address
abbrev pub bytes_of_refusal : PoolError → List ℕ
bytes_of_refusal e = number_of_error e ∷ to_le_bytes w64 (damaged_kind e) ++ to_le_bytes w64 (damaged_address e)

abbrev pub bytes_of_receipt : Receipt → List ℕ
bytes_of_receipt r = to_le_bytes w64 r.ordinal.0 ++ to_le_bytes w64 r.group.0

-- bytes after their number
abbrev pub bytes_of_string : List ℕ → List ℕ
bytes_of_string bytes = to_le_bytes w32 (length bytes) ++ bytes

abbrev pub bytes_of_listed : Listed → List ℕ
bytes_of_listed l = to_le_bytes w32 l.object.0 ++ to_le_bytes w64 l.length

abbrev pub bytes_of_listing : List Listed → List ℕ
bytes_of_listing listed = to_le_bytes w32 (length listed) ++ flat_map bytes_of_listed listed

-- a group that may not be there: 0 if it isn't
abbrev pub number_of_group : Option Group → ℕ
number_of_group (Some group) = group.0
number_of_group None = 0

abbrev pub bytes_of_groups : Status → List ℕ
bytes_of_groups s = to_le_bytes w64 s.synced.0 ++ to_le_bytes w64 (number_of_group s.syncing) ++ to_le_bytes w64 (number_of_group s.middle) ++ to_le_bytes w64 s.open_group.0

abbrev pub bytes_of_status : Status → List ℕ
bytes_of_status s = bytes_of_groups s ++ to_le_bytes w64 s.dirty ++ to_le_bytes w64 s.free ++ to_le_bytes w64 s.available

abbrev pub byte_of_bool : Bool → ℕ
byte_of_bool true = 1
byte_of_bool false = 0

-- the bytes of what came of a request: the number of its call, or 0 or 11 if it was refused, and what it returned
abbrev pub bytes_of_outcome : Outcome → List ℕ
bytes_of_outcome (outcome.Refused e) = 0 ∷ bytes_of_refusal e
bytes_of_outcome (outcome.Transacted r) = 1 ∷ bytes_of_receipt r
bytes_of_outcome (outcome.MadeDurable r) = 2 ∷ bytes_of_receipt r
bytes_of_outcome (outcome.NotDurable r e) = 11 ∷ bytes_of_receipt r ++ bytes_of_refusal e
bytes_of_outcome (outcome.Bytes bytes) = 3 ∷ bytes_of_string bytes
bytes_of_outcome (outcome.Length n) = 4 ∷ to_le_bytes w64 n
bytes_of_outcome (outcome.Objects listed) = 5 ∷ bytes_of_listing listed
bytes_of_outcome (outcome.Status s) = 6 ∷ bytes_of_status s
bytes_of_outcome (outcome.Durable durable) = 7 ∷ byte_of_bool durable ∷ []
bytes_of_outcome outcome.Flushed = 8 ∷ []
bytes_of_outcome (outcome.Synced group) = 9 ∷ to_le_bytes w64 group.0
bytes_of_outcome (outcome.Name name) = 10 ∷ bytes_of_string name

-- the bytes of an answer: the number of its request, and what came of it
abbrev pub bytes_of_answer : Answer → List ℕ
bytes_of_answer a = to_le_bytes w64 a.number ++ bytes_of_outcome a.outcome

-- a frame of answers
abbrev pub bytes_of_answers : List Answer → List ℕ
bytes_of_answers answers = bytes_of_frame answers_kind (length answers) (flat_map bytes_of_answer answers)

-- the refusal of a frame, with its number where other frames have a count
abbrev pub bytes_of_refused : FrameError → List ℕ
bytes_of_refused e = bytes_of_frame refusal_kind (number_of_frame_error e) []

-- how many bytes a frame of answers has
abbrev pub size_of_answers : List Answer → ℕ
size_of_answers answers = frame_head + length (flat_map bytes_of_answer answers)
