-- What a handle does for the frames of an input, and what becomes of the input's and the output's bytes.
use Rattle.std.specs.Prelude.{ℕ, ◌≡◌, ◌≤◌, ◌<◌, ◌⊎◌, ◌++◌, All, IfSome, List, [], ◌∷◌, drop, length, take, Option, Result, Ok, Err}
use Rattle.std.specs.Int.{from_le_bytes, w32}
use Rattle.std.specs.List.{flat_map}
use Rattle.std.specs.Io.{StartsWith}
use Rattle.std.specs.Io.KnownBytes.{Appends, Consumes, IsAtEnd}
use Rattle.base.specs.declared.error.PoolError.{PoolError}
use Rattle.base.specs.declared.names.Group.{Group}
use Rattle.base.specs.declared.names.Owner.{Owner}
use Rattle.device_model.specs.declared.device.SectorDevice.{Ghosts}
use Rattle.frames.specs.Limits.{frame_head, max_frame}
use Rattle.pool_threads.specs.declared.handle.Handle.{Handle}
use Rattle.pool_threads.specs.Waits.{SyncsPool}
use Rattle.serving.specs.Frames.{AnswersFrame}
use Rattle.serving.specs.Written.{AppendsFront}
use Rattle.serving.specs.declared.inputs.Ending.{Ending}
use Rattle.serving.specs.declared.inputs.Ending.TheVariants as ending

-- the owner of the transactions and the reads that frames ask for
abbrev pub program : Owner
program = record { 0 = 1 }

-- a frame, and the one that answers it
pub record Exchange : Type 0 where
  pub frame : List ℕ
  pub answer : List ℕ

-- the bytes of the frames that were read, and those of their answers
abbrev pub frames_of : List Exchange → List ℕ
frames_of xs = flat_map (λ (x : Exchange). x.frame) xs

abbrev pub answers_of : List Exchange → List ℕ
answers_of xs = flat_map (λ (x : Exchange). x.answer) xs

module _ {Dev : Type 0} {G : Ghosts Dev} where
  -- the frames were answered, one after another
  abbrev pub AnswersFrames : Owner → List Exchange → Handle Dev G → Handle Dev G → Type 0
  AnswersFrames owner [] old new = new ≡ old
  AnswersFrames owner (x ∷ xs) old new = (next : Handle Dev G) × AnswersFrame owner x.frame x.answer old next × AnswersFrames owner xs next new

  -- The handle answered the frames, one after another. Then it synced the pool, with this result, and did no more.
  pub record ServesFrames (owner : Owner) (xs : List Exchange) (synced : Result Group PoolError) (old new : Handle Dev G) : Type 0 where
    pub served : Handle Dev G
    pub answers : AnswersFrames owner xs old served
    pub syncs : SyncsPool synced served new

-- what is known of the bytes that an input has left, and of those that an output holds
pub record Streams : Type 0 where
  pub input : Option (List ℕ)
  pub output : Option (List ℕ)

-- these bytes are as long as a frame may be, and the first four say how many they are
pub record IsWhole (frame : List ℕ) : Type 0 where
  pub least : frame_head ≤ length frame
  pub most : length frame ≤ max_frame
  pub said : from_le_bytes w32 (take 4 frame) ≡ length frame

-- four bytes that say a length that no frame may have
pub record IsBadLength (frame : List ℕ) : Type 0 where
  pub four : length frame ≡ 4
  pub bad : (from_le_bytes w32 frame < frame_head) ⊎ (max_frame < from_le_bytes w32 frame)

-- none, or a bad length
abbrev pub IsLengthAlone : List Exchange → Type 0
IsLengthAlone [] = Unit {0}
IsLengthAlone (x ∷ []) = IsBadLength x.frame
IsLengthAlone (x ∷ y ∷ xs) = ⊥

-- The frames that were answered stand in the input from its beginning, each whole, in order. Only the last may be a
-- length alone, which is no frame: it is refused.
pub record BeginsWithFrames (xs : List Exchange) (input : Option (List ℕ)) : Type 0 where
  pub good : List Exchange
  pub last : List Exchange
  pub parts : xs ≡ good ++ last
  pub whole : All (λ (x : Exchange). IsWhole x.frame) good
  pub alone : IsLengthAlone last
  pub begins : IfSome input (λ bytes. StartsWith bytes (frames_of xs))

-- the frames were read from the input, each whole, and their answers were written to the output
pub record Exchanges (xs : List Exchange) (old new : Streams) : Type 0 where
  pub whole : All (λ (x : Exchange). IsWhole x.frame) xs
  pub reads : Consumes old.input new.input (frames_of xs)
  pub writes : Appends old.output new.output (answers_of xs)

-- bytes in which a frame begins, and that end within it
pub record IsCutOff (bytes : List ℕ) : Type 0 where
  pub some : 0 < length bytes
  pub ends : (length bytes < 4) ⊎ (length bytes < from_le_bytes w32 (take 4 bytes))

-- the last of the frames is a bad length
pub record EndsInBadLength (xs : List Exchange) : Type 0 where
  pub good : List Exchange
  pub last : Exchange
  pub parts : xs ≡ good ++ last ∷ []
  pub bad : IsBadLength last.frame

-- nothing can be read after these frames: the last is a bad length, or the input ends within the next one
abbrev pub IsCutOffAfter : List Exchange → Option (List ℕ) → Type 0
IsCutOffAfter xs input = EndsInBadLength xs ⊎ IfSome input (λ bytes. IsCutOff (drop (length (frames_of xs)) bytes))

-- What was written is a front of the answers, however the frames ended. It is all of them, unless the output was refused
-- or there was no memory. `Done`: the frames were all of the input. `CutOff`: nothing can be read after them.
abbrev pub EndsWell : Ending → List Exchange → Streams → Streams → Type 0
EndsWell ending.Done xs old new = Exchanges xs old new × IsAtEnd new.input
EndsWell ending.CutOff xs old new = Appends old.output new.output (answers_of xs) × IsCutOffAfter xs old.input
EndsWell ending.ReadFailed xs old new = Appends old.output new.output (answers_of xs)
EndsWell ending.WriteFailed xs old new = AppendsFront old.output new.output (answers_of xs)
EndsWell ending.NoMemory xs old new = AppendsFront old.output new.output (answers_of xs)

-- so it was after one more frame
abbrev pub GoesOnWell : Result (Unit {0}) Ending → List Exchange → Streams → Streams → Type 0
GoesOnWell (Ok done) xs old new = Exchanges xs old new
GoesOnWell (Err e) xs old new = EndsWell e xs old new

-- a frame was read whole, or the input had ended before it, or it ended within it
abbrev pub ReadsFrame : Result (Unit {0}) Ending → List ℕ → Option (List ℕ) → Option (List ℕ) → Type 0
ReadsFrame (Ok done) frame old new = Consumes old new frame
ReadsFrame (Err ending.Done) frame old new = Consumes old new [] × IsAtEnd new
ReadsFrame (Err ending.CutOff) frame old new = IfSome old IsCutOff
ReadsFrame (Err e) frame old new = Unit {0}
