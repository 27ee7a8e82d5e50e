-- What bytes say as a frame of requests, read from left to right, or why they are none.
use Rattle.std.specs.Prelude.{◌≡◌, ◌⊎◌, Bool, not, ℕ, zero, suc, ◌==◌, ◌||◌, List, [], ◌∷◌, length, Option, Some, None, Result, Ok, Err, nat_lt, if◌then◌else◌}
use Rattle.std.specs.Global.{Vec}
use Rattle.std.specs.Int.{Width, w16, w32, w64}
use Rattle.base.specs.formats.Records as formats
use Rattle.records.specs.Reading.{number_in, record_in}
use Rattle.records.specs.declared.record.Record.{Record}
use Rattle.frames.specs.Limits.{frame_version, max_frame, requests_kind}
use Rattle.frames.specs.Requests.{room_of_answers}
use Rattle.frames.specs.declared.error.FrameError.{FrameError}
use Rattle.frames.specs.declared.error.FrameError.TheVariants as error
use Rattle.frames.specs.declared.request.Call.{Call}
use Rattle.frames.specs.declared.request.Call.TheVariants as call
use Rattle.frames.specs.declared.request.Request.{Request}

infixl 10 ◌>>=◌
abbrev pub ◌>>=◌ : {A B : Type 0} → Result A FrameError → (A → Result B FrameError) → Result B FrameError
(Ok x) >>= f = f x
(Err e) >>= f = Err e

-- what is there, or this error
abbrev pub or_error : {A : Type 0} → FrameError → Option A → Result A FrameError
or_error e (Some x) = Ok x
or_error e None = Err e

-- what a call returned, seen by view, is what reading gives, unless memory ran out
abbrev pub Fails : {Y : Type 0} → FrameError → Result Y FrameError → Type 0
Fails e read = (e ≡ error.NoMemory) ⊎ (read ≡ Err e)

abbrev pub Gives : {X Y : Type 0} → (X → Y) → Result X FrameError → Result Y FrameError → Type 0
Gives view (Ok x) read = read ≡ Ok (view x)
Gives view (Err e) read = Fails e read

-- a record as code has it
abbrev pub declared_record : formats.Record → Record
declared_record r = record { group = record { 0 = r.group }; ordinal = record { 0 = r.ordinal }; ops = r.ops }

-- Each of these gives what it reads and the bytes after it: a number,
unfoldable pub field_in : Width → List ℕ → Result (ℕ × List ℕ) FrameError
field_in w bytes = or_error error.CutOff (number_in w bytes)

-- a byte,
abbrev pub one_byte_in : List ℕ → Result (ℕ × List ℕ) FrameError
one_byte_in [] = Err error.CutOff
one_byte_in (b ∷ bytes) = Ok (b, bytes)

-- a log record,
unfoldable pub log_record_in : List ℕ → Result (Record × List ℕ) FrameError
log_record_in bytes = do
  found ← or_error error.BadRecord (record_in bytes)
  Ok (declared_record found.0, found.1)

-- what each call needs,
unfoldable pub transact_in : List ℕ → Result (Call × List ℕ) FrameError
transact_in bytes = do
  committed ← log_record_in bytes
  Ok (call.Transact committed.0, committed.1)

unfoldable pub transact_durably_in : List ℕ → Result (Call × List ℕ) FrameError
transact_durably_in bytes = do
  committed ← log_record_in bytes
  Ok (call.TransactDurably committed.0, committed.1)

unfoldable pub read_in : List ℕ → Result (Call × List ℕ) FrameError
read_in bytes = do
  object ← field_in w32 bytes
  low ← field_in w64 object.1
  high ← field_in w64 low.1
  Ok (call.Read (record { 0 = object.0 }) (record { low = low.0; high = high.0 }), high.1)

unfoldable pub length_in : List ℕ → Result (Call × List ℕ) FrameError
length_in bytes = do
  object ← field_in w32 bytes
  Ok (call.Length (record { 0 = object.0 }), object.1)

unfoldable pub objects_in : List ℕ → Result (Call × List ℕ) FrameError
objects_in bytes = do
  first ← field_in w32 bytes
  past ← field_in w32 first.1
  Ok (call.Objects (record { 0 = first.0 }) (record { 0 = past.0 }), past.1)

unfoldable pub durable_in : List ℕ → Result (Call × List ℕ) FrameError
durable_in bytes = do
  ordinal ← field_in w64 bytes
  group ← field_in w64 ordinal.1
  Ok (call.Durable (record { ordinal = record { 0 = ordinal.0 }; group = record { 0 = group.0 } }), group.1)

-- the call of this number,
unfoldable pub call_in : ℕ → List ℕ → Result (Call × List ℕ) FrameError
call_in number bytes =
    if number == 1 then transact_in bytes
    else (if number == 2 then transact_durably_in bytes
    else (if number == 3 then read_in bytes
    else (if number == 4 then length_in bytes
    else (if number == 5 then objects_in bytes
    else (if number == 6 then Ok (call.Status, bytes)
    else (if number == 7 then durable_in bytes
    else (if number == 8 then Ok (call.Flush, bytes)
    else (if number == 9 then Ok (call.Sync, bytes)
    else (if number == 10 then Ok (call.Name, bytes) else Err error.BadCall)))))))))

-- a request,
unfoldable pub request_in : List ℕ → Result (Request × List ℕ) FrameError
request_in bytes = do
  number ← field_in w64 bytes
  tag ← one_byte_in number.1
  asked ← call_in tag.0 tag.1
  Ok (record { number = number.0; call = asked.0 }, asked.1)

-- and so many of them
unfoldable pub requests_in : ℕ → List ℕ → Result (List Request × List ℕ) FrameError
requests_in zero bytes = Ok ([], bytes)
requests_in (suc n) bytes = do
  first ← request_in bytes
  others ← requests_in n first.1
  Ok (first.0 ∷ others.0, others.1)

-- nothing, unless a test refuses it
abbrev pub error_if : Bool → FrameError → Result (Unit {0}) FrameError
error_if b e = if b then Err e else Ok tt

-- whether a frame says another length than it has, or is too long
abbrev pub is_length_refused : ℕ → List ℕ → Bool
is_length_refused said bytes = not (said == length bytes) || nat_lt max_frame said

-- the head of a frame of requests: how many there are, and the bytes after it
unfoldable pub head_in : List ℕ → Result (ℕ × List ℕ) FrameError
head_in bytes = do
  size ← field_in w32 bytes
  sized ← error_if (is_length_refused size.0 bytes) error.BadLength
  version ← field_in w16 size.1
  known ← error_if (not (version.0 == frame_version)) error.BadVersion
  kind ← field_in w16 version.1
  asking ← error_if (not (kind.0 == requests_kind)) error.BadKind
  field_in w32 kind.1

-- the requests of a frame
unfoldable pub frame_in : List ℕ → Result (List Request) FrameError
frame_in bytes = do
  head ← head_in bytes
  requests ← requests_in head.0 head.1
  ended ← error_if (not (length requests.1 == 0)) error.Surplus
  fitting ← error_if (nat_lt max_frame (room_of_answers requests.0)) error.AnswersTooLong
  Ok requests.0

-- these requests are what bytes are decoded as, unless memory runs out
abbrev pub DecodesTo : Result (Vec Request) FrameError → List Request → Type 0
DecodesTo (Ok found) requests = found.items ≡ requests
DecodesTo (Err e) requests = e ≡ error.NoMemory
