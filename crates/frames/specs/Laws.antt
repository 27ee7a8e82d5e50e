-- What holds of frames and their bytes.
use Rattle.std.specs.Prelude.{◌≡◌, ℕ, List, Ok}
use Rattle.frames.specs.Reading.{frame_in}
use Rattle.frames.specs.Requests.{AreAllowed, IsFrameOf, bytes_of_requests}
use Rattle.frames.specs.declared.request.Request.{Request}

-- what is spelled of requests within their limits is read as them
abbrev pub FramesReadBack : Type 0
FramesReadBack = (requests : List Request) → AreAllowed requests → frame_in (bytes_of_requests requests) ≡ Ok requests

-- bytes are the frame of one list of requests at most
abbrev pub FramesAgree : Type 0
FramesAgree = (bytes : List ℕ) (requests others : List Request) → IsFrameOf bytes requests → IsFrameOf bytes others → requests ≡ others
