-- What a handle does for the bytes of a frame, and the bytes of the answer.
use Rattle.std.specs.Prelude.{ℕ, ◌≡◌, ◌⊎◌, List, Err}
use Rattle.base.specs.declared.names.Owner.{Owner}
use Rattle.device_model.specs.declared.device.SectorDevice.{Ghosts}
use Rattle.frames.specs.Answers.{bytes_of_answers, bytes_of_refused}
use Rattle.frames.specs.Reading.{frame_in}
use Rattle.frames.specs.Requests.{IsFrameOf}
use Rattle.frames.specs.declared.answer.Answer.{Answer}
use Rattle.frames.specs.declared.error.FrameError.{FrameError}
use Rattle.frames.specs.declared.error.FrameError.TheVariants as frame_error
use Rattle.frames.specs.declared.request.Request.{Request}
use Rattle.pool_threads.specs.declared.handle.Handle.{Handle}
use Rattle.serving.specs.Calls.{MakesAll}

-- why these bytes are refused as a frame: for what is read of them, or for want of memory
abbrev pub IsFrameRefusal : List ℕ → FrameError → Type 0
IsFrameRefusal bytes e = (e ≡ frame_error.NoMemory) ⊎ (frame_in bytes ≡ Err e)

module _ {Dev : Type 0} {G : Ghosts Dev} where
  -- These bytes are refused as a frame, and this is the answer. The handle did nothing.
  pub record RefusesFrame (bytes answer : List ℕ) (old new : Handle Dev G) : Type 0 where
    pub error : FrameError
    pub refused : IsFrameRefusal bytes error
    pub unchanged : new ≡ old
    pub answer_is : answer ≡ bytes_of_refused error

  -- These bytes are a frame, and its requests were made. The frame of their answers is the answer.
  pub record AnswersRequests (owner : Owner) (bytes answer : List ℕ) (old new : Handle Dev G) : Type 0 where
    pub requests : List Request
    pub answers : List Answer
    pub spelled : IsFrameOf bytes requests
    pub makes : MakesAll owner requests answers old new
    pub answer_is : answer ≡ bytes_of_answers answers

  abbrev pub AnswersFrame : Owner → List ℕ → List ℕ → Handle Dev G → Handle Dev G → Type 0
  AnswersFrame owner bytes answer old new = RefusesFrame bytes answer old new ⊎ AnswersRequests owner bytes answer old new
