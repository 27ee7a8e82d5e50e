-- The fixed numbers of frames.
use Rattle.std.specs.Prelude.{ℕ}

-- the version of these frames
abbrev pub frame_version : ℕ
frame_version = 1

-- the most bytes of a frame
abbrev pub max_frame : ℕ
max_frame = 4194304

-- the bytes of a frame before its requests or its answers
abbrev pub frame_head : ℕ
frame_head = 12

-- the kinds of frames: of requests, of answers, the refusal of a frame, a pool that is open, and one that isn't
abbrev pub requests_kind : ℕ
requests_kind = 1

abbrev pub answers_kind : ℕ
answers_kind = 2

abbrev pub refusal_kind : ℕ
refusal_kind = 3

abbrev pub opened_kind : ℕ
opened_kind = 4

abbrev pub unopened_kind : ℕ
unopened_kind = 5

-- the most bytes of the cause for which a pool isn't open
abbrev pub max_cause : ℕ
max_cause = 4194268

-- the bytes that are kept for an answer, besides bytes that are read and objects that are listed
abbrev pub least_room : ℕ
least_room = 80

-- the bytes of an object that is listed
abbrev pub listed_size : ℕ
listed_size = 12
